-- Document 01, The sheet: 'Keys and sampler names are compared as fixed bytes.' Definitions only.
use Rattle.std.specs.Prelude.{ℕ, List, Bool, true, false}
use Rattle.texts.specs.Bytes.{bytes}
use Rattle.sheet_lines.specs.declared.{Sampler.Sampler, Sampler.TheVariants.Gamma, Sampler.TheVariants.Beta, Sampler.TheVariants.Chi, Sampler.TheVariants.Fisher, Sampler.TheVariants.Student}

-- line 1, whole
abbrev pub edition : List ℕ
edition = bytes "edition=1\n"

abbrev pub sampler_key : List ℕ
sampler_key = bytes "sampler="

-- 'Samplers: gamma, beta, chi, fisher, student', each with the line feed that ends line 2
abbrev pub name_text : Sampler → List ℕ
name_text Gamma = bytes "gamma\n"
name_text Beta = bytes "beta\n"
name_text Chi = bytes "chi\n"
name_text Fisher = bytes "fisher\n"
name_text Student = bytes "student\n"

abbrev pub a_key : List ℕ
a_key = bytes "a="

abbrev pub b_key : List ℕ
b_key = bytes "b="

-- 'chi and student have b all zeros': they have one parameter, and line 4 is fixed
abbrev pub lone : Sampler → Bool
lone Gamma = false
lone Beta = false
lone Chi = true
lone Fisher = false
lone Student = true

abbrev pub b_zeros : List ℕ
b_zeros = bytes "b=0000000000000000\n"

abbrev pub uniforms_key : List ℕ
uniforms_key = bytes "uniforms="

abbrev pub normals_key : List ℕ
normals_key = bytes "normals="

abbrev pub exponentials_key : List ℕ
exponentials_key = bytes "exponentials="
