-- Simple types: a kind, known by the bytes of its name, or an arrow of two types.
use Rattle.std.specs.Prelude.{ℕ, suc, List, [], ◌∷◌, Bool, false, ◌&&◌, codes, bytes_eq}

pub data Ty : Type 0 where
  kind : List ℕ → Ty
  arrow : Ty → Ty → Ty

-- formulas of the reasoning logic
abbrev pub prop : Ty
prop = kind (codes "prop")

-- formulas of the specification logic
abbrev pub o : Ty
o = kind (codes "o")

-- lists of these
abbrev pub olist : Ty
olist = kind (codes "olist")

-- the type of what takes arguments of the listed types in order, and then gives the last
abbrev pub arrows : List Ty → Ty → Ty
arrows [] B = B
arrows (A ∷ As) B = arrow A (arrows As B)

-- how many arguments a type takes
abbrev pub arity : Ty → ℕ
arity (kind k) = 0
arity (arrow A B) = suc (arity B)

-- each argument that the type takes is of a kind
abbrev pub IsFirstOrder : Ty → Type 0
IsFirstOrder (kind k) = Unit {0}
IsFirstOrder (arrow (kind k) B) = IsFirstOrder B
IsFirstOrder (arrow (arrow A C) B) = ⊥

-- the test of whether two types are the same
abbrev pub same_type : Ty → Ty → Bool
same_type (kind k) (kind l) = bytes_eq k l
same_type (kind k) (arrow C D) = false
same_type (arrow A B) (kind l) = false
same_type (arrow A B) (arrow C D) = same_type A C && same_type B D
