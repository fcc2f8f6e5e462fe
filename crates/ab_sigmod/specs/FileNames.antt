-- The files of specifications, by name: each specification has a signature and a module.
use Rattle.std.specs.Prelude.{◌≡◌, ◌⊎◌, ℕ, List, ◌∷◌, ◌++◌, Contains, codes}
use Rattle.ab_grammar.specs.declared.file.FileKind.{FileKind}
use Rattle.ab_grammar.specs.declared.file.FileKind.TheVariants.{Signature, Module}

-- a file, by its name without the ending
pub record File : Type 0 where
  pub base : List ℕ
  pub kind : FileKind

abbrev pub ending : FileKind → List ℕ
ending Signature = codes ".sig"
ending Module = codes ".mod"

abbrev pub name_of : File → List ℕ
name_of f = f.base ++ ending f.kind

abbrev pub slash : ℕ
slash = 47

-- the title of a file is its name without the folder and the ending
abbrev pub IsTitle : List ℕ → List ℕ → Type 0
IsTitle base title = ¬ Contains title slash × ((base ≡ title) ⊎ ((folder : List ℕ) × (base ≡ folder ++ slash ∷ title)))
