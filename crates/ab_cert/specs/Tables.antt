-- WHICH CERTIFICATES ARE WRITTEN: the tables of steps and of logical constants, the names, and how great a number may be.
use Rattle.std.specs.Prelude.{◌≡◌, ◌<◌, ◌^◌, ℕ, zero, suc, List, [], ◌∷◌, length, map, codes, bytes_eq, if◌then◌else◌, Option, Some, None}
use Rattle.ab_lex.specs.Tokens.{underscore, IsWord, IsNumber}
use Rattle.ab_cert.specs.Plain.{Ty, base, arrow, Detail, bare, with_type, with_level, Sign, Head, constant, logic, nominal, cell, index, Term, lam, spine, Terms, no_terms, one_more, list_of, Replace, Field, name, label, flag, place, term, numbers, labels, replaces, Step, Variable, Clause, Item, kind, const, block, program, theorem}

-- THE FORMS OF FIELDS
pub data Form : Type 0 where
  a_name : Form
  a_label : Form
  a_flag : Form
  a_place : Form
  a_term : Form
  some_numbers : Form
  some_labels : Form
  some_replaces : Form

abbrev pub form_of : Field → Form
form_of (name x) = a_name
form_of (label l) = a_label
form_of (flag b) = a_flag
form_of (place n) = a_place
form_of (term t) = a_term
form_of (numbers ns) = some_numbers
form_of (labels ls) = some_labels
form_of (replaces rs) = some_replaces

-- THE STEPS: the forms of the fields of each, from rule 1 on
abbrev pub steps : List (List Form)
steps =
    -- 1 Initial, TrueRight, FalseLeft, AndRight
    (a_name ∷ []) ∷ [] ∷ (a_name ∷ []) ∷ []
    -- 5 AndLeft, OrRight, OrLeft, ArrowRight, ArrowLeft
    ∷ (a_name ∷ a_label ∷ a_label ∷ []) ∷ (a_flag ∷ []) ∷ (a_name ∷ a_label ∷ []) ∷ (a_label ∷ []) ∷ (a_name ∷ a_label ∷ [])
    -- 10 ForallRight, ForallLeft, ExistsRight, ExistsLeft
    ∷ [] ∷ (a_name ∷ a_term ∷ a_label ∷ []) ∷ (a_term ∷ []) ∷ (a_name ∷ a_label ∷ [])
    -- 14 NablaRight, NablaLeft, EqualRight, EqualLeft
    ∷ [] ∷ (a_name ∷ a_label ∷ []) ∷ [] ∷ (a_name ∷ [])
    -- 18 DefRight, DefLeft, Induction, Coinduction
    ∷ (a_place ∷ []) ∷ (a_name ∷ a_label ∷ []) ∷ (some_numbers ∷ some_labels ∷ []) ∷ (some_labels ∷ [])
    -- 22 CutFormula, UseTheorem, Weaken
    ∷ (a_term ∷ a_label ∷ []) ∷ (a_name ∷ a_label ∷ []) ∷ (a_name ∷ [])
    -- 25 SpecCut, SpecInst, SpecMonotone, Skip
    ∷ (a_name ∷ a_name ∷ a_label ∷ []) ∷ (a_name ∷ some_replaces ∷ a_label ∷ []) ∷ (a_name ∷ a_term ∷ a_label ∷ []) ∷ [] ∷ []

-- what stands at a place of such a table, counted from 0
abbrev pub form_at : List (List Form) → ℕ → Option (List Form)
form_at [] n = None
form_at (forms ∷ more) zero = Some forms
form_at (forms ∷ more) (suc n) = form_at more n

-- the forms of the fields of the rule of this number, if there is one
abbrev pub forms_of : ℕ → Option (List Form)
forms_of zero = None
forms_of (suc n) = form_at steps n

-- what a logical constant carries
pub data Kind : Type 0 where
  nothing : Kind
  a_type : Kind
  a_level : Kind

abbrev pub kind_of : Detail → Kind
kind_of bare = nothing
kind_of (with_type ty) = a_type
kind_of (with_level n) = a_level

-- THE LOGICAL CONSTANTS: the word of each, and what it carries
abbrev pub signs : List (List ℕ × Kind)
signs =
    (codes "true", nothing) ∷ (codes "false", nothing) ∷ (codes "and", nothing) ∷ (codes "or", nothing) ∷ (codes "arrow", nothing)
    ∷ (codes "equal", a_type) ∷ (codes "forall", a_type) ∷ (codes "exists", a_type) ∷ (codes "nabla", a_type)
    ∷ (codes "judge", nothing) ∷ (codes "focus", nothing)
    ∷ (codes "star", a_level) ∷ (codes "at", a_level) ∷ (codes "plus", a_level) ∷ (codes "hash", a_level)
    ∷ (codes "pi", a_type) ∷ (codes "imply", nothing) ∷ (codes "with", nothing) ∷ []

-- what stands at a word in a table
abbrev pub value_at : {A : Type 0} → List (List ℕ × A) → List ℕ → Option A
value_at [] w = None
value_at (e ∷ es) w = if bytes_eq e.0 w then Some e.1 else value_at es w

-- A NAME: a word, `_` with digits, or `::`
pub data IsName : List ℕ → Type 0 where
  word : {x : List ℕ} → IsWord x → IsName x
  underscore_number : {b : ℕ} {ds : List ℕ} → b ≡ underscore → IsNumber ds → IsName (b ∷ ds)
  cons : {x : List ℕ} → x ≡ codes "::" → IsName x

-- HOW GREAT A NUMBER MAY BE: a nominal number and a level have thirty digits at most, the place of an antecedent is one of
-- 32 bits, and every other is one of 64
abbrev pub IsLong : ℕ → Type 0
IsLong n = n < 10 ^ 30

abbrev pub IsSmall : ℕ → Type 0
IsSmall n = n < 2 ^ 32

abbrev pub IsCount : ℕ → Type 0
IsCount n = n < 2 ^ 64

-- each of the list is so
abbrev pub Each : {A : Type 0} → (A → Type 0) → List A → Type 0
Each P [] = Unit {0}
Each P (x ∷ xs) = P x × Each P xs

-- there are few enough, and each is so
abbrev pub IsList : {A : Type 0} → (A → Type 0) → List A → Type 0
IsList P xs = IsCount (length xs) × Each P xs

abbrev pub IsTy : Ty → Type 0
IsTy (base k) = IsName k
IsTy (arrow a b) = IsTy a × IsTy b

abbrev pub IsDetail : Detail → Type 0
IsDetail bare = Unit {0}
IsDetail (with_type ty) = IsTy ty
IsDetail (with_level n) = IsLong n

pub record IsSign (s : Sign) : Type 0 where
  pub known : value_at signs s.word ≡ Some (kind_of s.detail)
  pub detail : IsDetail s.detail

abbrev pub IsHead : Head → Type 0
IsHead (constant c) = IsName c
IsHead (logic s) = IsSign s
IsHead (nominal n ty) = IsLong n × IsTy ty
IsHead (cell x) = IsName x
IsHead (index i) = IsCount i

abbrev mutual
  pub IsTerm : Term → Type 0
  IsTerm (lam ty hint body) = IsTy ty × IsName hint × IsTerm body
  IsTerm (spine head args) = IsHead head × IsCount (length (list_of args)) × AreTerms args

  pub AreTerms : Terms → Type 0
  AreTerms no_terms = Unit {0}
  AreTerms (one_more t ts) = IsTerm t × AreTerms ts

abbrev pub IsLabel : Option (List ℕ) → Type 0
IsLabel None = Unit {0}
IsLabel (Some x) = IsName x

abbrev pub IsReplace : Replace → Type 0
IsReplace r = IsLong r.number × IsTy r.ty × IsTerm r.to

abbrev pub IsField : Field → Type 0
IsField (name x) = IsName x
IsField (label l) = IsLabel l
IsField (flag b) = Unit {0}
IsField (place n) = IsCount n
IsField (term t) = IsTerm t
IsField (numbers ns) = IsList IsSmall ns
IsField (labels ls) = IsList IsLabel ls
IsField (replaces rs) = IsList IsReplace rs

-- the fields have the forms that the table gives for the rule
pub record IsStep (s : Step) : Type 0 where
  pub known : forms_of s.number ≡ Some (map form_of s.fields)
  pub fields : Each IsField s.fields

abbrev pub IsVariable : Variable → Type 0
IsVariable v = IsName v.name × IsTy v.ty

abbrev pub IsClause : Clause → Type 0
IsClause c = IsList IsVariable c.variables × IsTerm c.head × IsTerm c.body

abbrev pub IsItem : Item → Type 0
IsItem (kind x) = IsName x
IsItem (const x ty) = IsName x × IsTy ty
IsItem (block inductive names clauses) = IsList IsName names × IsList IsClause clauses
IsItem (program c) = IsClause c
IsItem (theorem x formula steps) = IsName x × IsTerm formula × IsList IsStep steps

-- A CERTIFICATE THAT IS WRITTEN
abbrev pub IsCert : List Item → Type 0
IsCert items = Each IsItem items
