-- In a table and a store no two heads read alike.
use Rattle.std.proofs.Common.{◌≡◌, ℕ, List, ◌∷◌, [], get_or, refl, sym, ◌∙◌, ap, subst, arith}
use Rattle.ab_term.specs.Types.{Ty}
use Rattle.ab_term.specs.Logical as plain
use Rattle.ab_term.specs.Terms as tree
use Rattle.ab_store.specs.ab_types.specs.Entries.{Table}
use Rattle.ab_store.specs.ab_types.specs.Ids.{HoldsType, type_of}
use Rattle.ab_store.specs.ab_types.specs.Sound.{IsTable}
use Rattle.ab_store.specs.ab_types.specs.declared.ids.TypeId.{TypeId}
use Rattle.ab_store.specs.ab_types.proofs.Kept.{one_type, one_constant}
use Rattle.ab_store.specs.declared.node.Logical.{Logical}
use Rattle.ab_store.specs.declared.node.Logical.TheVariants.{True, False, And, Or, Arrow, Equal, Forall, Exists, Nabla, Judge, Focus, Star, At, Plus, Hash, Pi, Imply, With}
use Rattle.ab_store.specs.declared.node.Head.{Head}
use Rattle.ab_store.specs.declared.node.Head.TheVariants.{Const, Logic, Nominal, Cell, Index}
use Rattle.ab_store.specs.Trees.{Contents, logical_of, head_reading}
use Rattle.ab_store.specs.Naming.{LogicalIsTyped, HeadIsTyped}

-- a place in the list of all logical constants, and what the constant holds
abbrev first : TypeId
first = record { 0 = 0 }

record Parts (T : Type 0) : Type 0 where
  place : ℕ
  type : T
  level : ℕ

abbrev parts : Logical → Parts TypeId
parts True = record { place = 0; type = first; level = 0 }
parts False = record { place = 1; type = first; level = 0 }
parts And = record { place = 2; type = first; level = 0 }
parts Or = record { place = 3; type = first; level = 0 }
parts Arrow = record { place = 4; type = first; level = 0 }
parts (Equal a) = record { place = 5; type = a; level = 0 }
parts (Forall a) = record { place = 6; type = a; level = 0 }
parts (Exists a) = record { place = 7; type = a; level = 0 }
parts (Nabla a) = record { place = 8; type = a; level = 0 }
parts Judge = record { place = 9; type = first; level = 0 }
parts Focus = record { place = 10; type = first; level = 0 }
parts (Star i) = record { place = 11; type = first; level = i }
parts (At i) = record { place = 12; type = first; level = i }
parts (Plus i) = record { place = 13; type = first; level = i }
parts (Hash i) = record { place = 14; type = first; level = i }
parts (Pi a) = record { place = 15; type = a; level = 0 }
parts Imply = record { place = 16; type = first; level = 0 }
parts With = record { place = 17; type = first; level = 0 }

abbrev all : TypeId → ℕ → List Logical
all a i = True ∷ False ∷ And ∷ Or ∷ Arrow ∷ Equal a ∷ Forall a ∷ Exists a ∷ Nabla a ∷ Judge ∷ Focus ∷ Star i ∷ At i ∷ Plus i ∷ Hash i ∷ Pi a ∷ Imply ∷ With ∷ []

abbrev whole : Parts TypeId → Logical
whole p = get_or (all p.type p.level) p.place True

whole_parts : (l : Logical) → whole (parts l) ≡ l
whole_parts True = refl
whole_parts False = refl
whole_parts And = refl
whole_parts Or = refl
whole_parts Arrow = refl
whole_parts (Equal a) = refl
whole_parts (Forall a) = refl
whole_parts (Exists a) = refl
whole_parts (Nabla a) = refl
whole_parts Judge = refl
whole_parts Focus = refl
whole_parts (Star i) = refl
whole_parts (At i) = refl
whole_parts (Plus i) = refl
whole_parts (Hash i) = refl
whole_parts (Pi a) = refl
whole_parts Imply = refl
whole_parts With = refl

module _ (table : Table) where
  abbrev plain_parts : plain.Logical → Parts Ty
  plain_parts plain.truth = record { place = 0; type = type_of table first; level = 0 }
  plain_parts plain.falsity = record { place = 1; type = type_of table first; level = 0 }
  plain_parts plain.conjunction = record { place = 2; type = type_of table first; level = 0 }
  plain_parts plain.disjunction = record { place = 3; type = type_of table first; level = 0 }
  plain_parts plain.implication = record { place = 4; type = type_of table first; level = 0 }
  plain_parts (plain.equality A) = record { place = 5; type = A; level = 0 }
  plain_parts (plain.universal A) = record { place = 6; type = A; level = 0 }
  plain_parts (plain.existential A) = record { place = 7; type = A; level = 0 }
  plain_parts (plain.nabla A) = record { place = 8; type = A; level = 0 }
  plain_parts plain.judgement = record { place = 9; type = type_of table first; level = 0 }
  plain_parts plain.focused_judgement = record { place = 10; type = type_of table first; level = 0 }
  plain_parts (plain.star i) = record { place = 11; type = type_of table first; level = i }
  plain_parts (plain.at_sign i) = record { place = 12; type = type_of table first; level = i }
  plain_parts (plain.plus i) = record { place = 13; type = type_of table first; level = i }
  plain_parts (plain.hash i) = record { place = 14; type = type_of table first; level = i }
  plain_parts (plain.spec_universal A) = record { place = 15; type = A; level = 0 }
  plain_parts plain.spec_implication = record { place = 16; type = type_of table first; level = 0 }
  plain_parts plain.spec_conjunction = record { place = 17; type = type_of table first; level = 0 }

  abbrev read_parts : Parts TypeId → Parts Ty
  read_parts p = record { place = p.place; type = type_of table p.type; level = p.level }

  parts_read : (l : Logical) → plain_parts (logical_of table l) ≡ read_parts (parts l)
  parts_read True = refl
  parts_read False = refl
  parts_read And = refl
  parts_read Or = refl
  parts_read Arrow = refl
  parts_read (Equal a) = refl
  parts_read (Forall a) = refl
  parts_read (Exists a) = refl
  parts_read (Nabla a) = refl
  parts_read Judge = refl
  parts_read Focus = refl
  parts_read (Star i) = refl
  parts_read (At i) = refl
  parts_read (Plus i) = refl
  parts_read (Hash i) = refl
  parts_read (Pi a) = refl
  parts_read Imply = refl
  parts_read With = refl

  module _ (ok : IsTable table) where
    first_held : HoldsType table first
    first_held = subst (λ t. HoldsType t first) (sym ok.begins.1) (omega arith)

    parts_held : (l : Logical) → LogicalIsTyped table l → HoldsType table (parts l).type
    parts_held True h = first_held
    parts_held False h = first_held
    parts_held And h = first_held
    parts_held Or h = first_held
    parts_held Arrow h = first_held
    parts_held (Equal a) h = h
    parts_held (Forall a) h = h
    parts_held (Exists a) h = h
    parts_held (Nabla a) h = h
    parts_held Judge h = first_held
    parts_held Focus h = first_held
    parts_held (Star i) h = first_held
    parts_held (At i) h = first_held
    parts_held (Plus i) h = first_held
    parts_held (Hash i) h = first_held
    parts_held (Pi a) h = h
    parts_held Imply h = first_held
    parts_held With h = first_held

    one_logical : (l m : Logical) → LogicalIsTyped table l → LogicalIsTyped table m → logical_of table l ≡ logical_of table m → l ≡ m
    one_logical l m hl hm e =
        let same : read_parts (parts l) ≡ read_parts (parts m) = sym (parts_read l) ∙ ap plain_parts e ∙ parts_read m in
        let places : (parts l).place ≡ (parts m).place = ap (λ (p : Parts Ty). p.place) same in
        let levels : (parts l).level ≡ (parts m).level = ap (λ (p : Parts Ty). p.level) same in
        let types : (parts l).type ≡ (parts m).type = one_type table ok (parts l).type (parts m).type (parts_held l hl) (parts_held m hm) (ap (λ (p : Parts Ty). p.type) same) in
        let all_same : parts l ≡ parts m = λ i. record { place = places i; type = types i; level = levels i } in
        sym (whole_parts l) ∙ ap whole all_same ∙ whole_parts m

    -- heads that read alike are one
    pub one_head : (s : Contents) (h g : Head) → HeadIsTyped table h → HeadIsTyped table g → head_reading table s h ≡ head_reading table s g → h ≡ g
    one_head s (Const c) (Const d) hh hg e = ap Const (one_constant table ok c d hh hg (cc))
    one_head s (Const c) (Logic m) hh hg e = cc
    one_head s (Const c) (Nominal n b) hh hg e = cc
    one_head s (Const c) (Cell y) hh hg e = cc
    one_head s (Const c) (Index j) hh hg e = cc
    one_head s (Logic l) (Const d) hh hg e = cc
    one_head s (Logic l) (Logic m) hh hg e = ap Logic (one_logical l m hh hg (cc))
    one_head s (Logic l) (Nominal n b) hh hg e = cc
    one_head s (Logic l) (Cell y) hh hg e = cc
    one_head s (Logic l) (Index j) hh hg e = cc
    one_head s (Nominal i a) (Const d) hh hg e = cc
    one_head s (Nominal i a) (Logic m) hh hg e = cc
    one_head s (Nominal i a) (Nominal n b) hh hg e =
        let same : record { number = i; type = type_of table a } ≡ record { number = n; type = type_of table b } = cc in
        let numbers : i ≡ n = ap (λ (x : tree.Nominal). x.number) same in
        ap (λ k. Nominal k a) numbers ∙ ap (Nominal n) (one_type table ok a b hh hg (ap (λ (x : tree.Nominal). x.type) same))
    one_head s (Nominal i a) (Cell y) hh hg e = cc
    one_head s (Nominal i a) (Index j) hh hg e = cc
    one_head s (Cell x) (Const d) hh hg e = cc
    one_head s (Cell x) (Logic m) hh hg e = cc
    one_head s (Cell x) (Nominal n b) hh hg e = cc
    one_head s (Cell x) (Cell y) hh hg e =
        let same : x.0 ≡ y.0 = variable_name (head_reading table s (Cell x)) (head_reading table s (Cell y)) e in
        ap (λ (k : ℕ). Cell (record { 0 = k })) same
      where
        name_of : tree.Head ℕ → ℕ
        name_of (tree.variable v) = v.name
        name_of _ = 0

        variable_name : (h g : tree.Head ℕ) → h ≡ g → name_of h ≡ name_of g
        variable_name h g e = ap name_of e
    one_head s (Cell x) (Index j) hh hg e = cc
    one_head s (Index i) (Const d) hh hg e = cc
    one_head s (Index i) (Logic m) hh hg e = cc
    one_head s (Index i) (Nominal n b) hh hg e = cc
    one_head s (Index i) (Cell y) hh hg e = cc
    one_head s (Index i) (Index j) hh hg e = cc
