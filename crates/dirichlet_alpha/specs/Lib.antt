-- What is checked before a Dirichlet vector is drawn, and what the call answers whatever the vector is.
pub mod Alpha
pub mod Answers
