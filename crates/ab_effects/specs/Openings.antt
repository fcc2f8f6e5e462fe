-- FORMULAS ARE OPENED in a goal, one after another: what they are made of becomes hypotheses of the goal. Conjunctions
-- give way to their parts, `exists` and `nabla` to their bodies with something new put in, and `true` to nothing.
use Rattle.std.specs.Prelude.{◌≡◌, ℕ, ◌≤◌, List, [], ◌∷◌, ◌++◌, All, Contains}
use Rattle.ab_term.specs.Types.{Ty}
use Rattle.ab_term.specs.Terms.{Nominal, Read}
use Rattle.ab_term.specs.Names.{support}
use Rattle.ab_term.specs.Substitution.{instance}
use Rattle.ab_formulas.specs.Declarations.{Declarations}
use Rattle.ab_formulas.specs.Forms.{Form, truth, both, exists, nabla, form_of}
use Rattle.ab_formulas.specs.Sequents.{Sequent, goal_names, names_of, assuming, over}
use Rattle.ab_formulas.specs.NewNames.{Label, auto, Names, NoName, IsLeast, IsNamedFor}
use Rattle.ab_theory.specs.Rules.{IsSupport, IsNew, hint_of, name_term, raised, applied}

-- the formula isn't taken apart: it becomes a hypothesis as it is
abbrev pub IsWhole : Form → Type 0
IsWhole truth = ⊥
IsWhole (both A B) = ⊥
IsWhole (exists A t) = ⊥
IsWhole (nabla A t) = ⊥
IsWhole _ = Unit {0}

-- The constant with this number may be put for the `nabla` name of the type in the formula, where these formulas are
-- still to be opened: it stands not in the formula, and its number at no other type in the goal or in any of these.
pub record MayTake (s : Sequent) (F : Read) (Fs : List Read) (A : Ty) (n : ℕ) : Type 0 where
  pub positive : 1 ≤ n
  pub outside : ¬ Contains (support F) (record { number = n; type = A })
  pub one_type : All (λ (b : Nominal). b.number ≡ n → b.type ≡ A) (goal_names s ++ names_of (F ∷ Fs))

-- a new variable of the goal stands for the bound name of a quantifier, over the constants of the formula
pub record Taken (D : Declarations) (s : Sequent) (F : Read) (A : Ty) (t G : Read) (u : Sequent) : Type 0 where
  pub number : ℕ
  pub name : List ℕ
  pub names : List Nominal
  pub new : IsNew number s
  pub named : IsNamedFor D s (hint_of t) name
  pub support_is : IsSupport F names
  pub body : G ≡ instance t (applied (raised number name A names) names)
  pub goal : u ≡ over (raised number name A names) s

-- THE FORMULAS ARE OPENED in the goal in order, with a label for the first new hypothesis: what is left is the label,
-- if nothing took it, and the goal
pub data Opened (D : Declarations) : List Read → Label → Sequent → Label → Sequent → Type 0 where
  none : {l : Label} {s : Sequent} → Opened D [] l s l s
  nothing : {F : Read} {Fs : List Read} {l m : Label} {s u : Sequent} → form_of F ≡ truth → Opened D Fs l s m u → Opened D (F ∷ Fs) l s m u
  parts : {F A B : Read} {Fs : List Read} {l m : Label} {s u : Sequent} → form_of F ≡ both A B → Opened D (A ∷ B ∷ Fs) l s m u → Opened D (F ∷ Fs) l s m u
  variable : {F t G : Read} {A : Ty} {Fs : List Read} {l m : Label} {s v u : Sequent} → form_of F ≡ exists A t → Taken D s F A t G v
      → Opened D (G ∷ Fs) l v m u → Opened D (F ∷ Fs) l s m u
  constant : {F t : Read} {A : Ty} {n : ℕ} {Fs : List Read} {l m : Label} {s u : Sequent} → form_of F ≡ nabla A t → IsLeast (MayTake s F Fs A) n
      → Opened D (instance t (name_term (record { number = n; type = A })) ∷ Fs) l s m u → Opened D (F ∷ Fs) l s m u
  hypothesis : {F : Read} {Fs : List Read} {l m : Label} {s u : Sequent} (name : List ℕ) (v : Sequent) → IsWhole (form_of F) → Names l s name v
      → Opened D Fs auto (assuming name F v) m u → Opened D (F ∷ Fs) l s m u

-- THEY CAN'T BE, since a new hypothesis gets no name
pub data Nameless (D : Declarations) : List Read → Label → Sequent → Type 0 where
  nothing : {F : Read} {Fs : List Read} {l : Label} {s : Sequent} → form_of F ≡ truth → Nameless D Fs l s → Nameless D (F ∷ Fs) l s
  parts : {F A B : Read} {Fs : List Read} {l : Label} {s : Sequent} → form_of F ≡ both A B → Nameless D (A ∷ B ∷ Fs) l s → Nameless D (F ∷ Fs) l s
  variable : {F t G : Read} {A : Ty} {Fs : List Read} {l : Label} {s v : Sequent} → form_of F ≡ exists A t → Taken D s F A t G v
      → Nameless D (G ∷ Fs) l v → Nameless D (F ∷ Fs) l s
  constant : {F t : Read} {A : Ty} {n : ℕ} {Fs : List Read} {l : Label} {s : Sequent} → form_of F ≡ nabla A t → IsLeast (MayTake s F Fs A) n
      → Nameless D (instance t (name_term (record { number = n; type = A })) ∷ Fs) l s → Nameless D (F ∷ Fs) l s
  hypothesis : {F : Read} {Fs : List Read} {l : Label} {s : Sequent} (name : List ℕ) (v : Sequent) → IsWhole (form_of F) → Names l s name v
      → Nameless D Fs auto (assuming name F v) → Nameless D (F ∷ Fs) l s
  unnamed : {F : Read} {Fs : List Read} {l : Label} {s : Sequent} → IsWhole (form_of F) → NoName l s → Nameless D (F ∷ Fs) l s
