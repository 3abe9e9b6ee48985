-- Document 01, 'Lent draws' and 'Numbered refusals' 17 to 19; the search and the fill that every sampler shares.
pub mod Draws
pub mod Refusals
pub mod Search
pub mod Fill
pub mod Later
pub mod Exactly
pub mod Promises
