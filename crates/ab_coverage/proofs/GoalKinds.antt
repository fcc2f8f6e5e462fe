-- What a goal is by its head, under a substitution; and the atoms of a formula's parts.
use Rattle.std.proofs.Common.{◌≡◌, ℕ, List, [], ◌∷◌, false, Option, refl, sym, ◌∙◌, ap, subst}
use Rattle.std.specs.Prelude.{All}
use Rattle.std.proofs.lemmas.Bool.{false≢true}
use Rattle.std.proofs.lemmas.List.Elements.{All-nil, All-cons, All-append}
use Rattle.ab_term.specs.Types.{Ty, kind, arrow, same_type, prop, o}
use Rattle.ab_term.specs.Logical.{Logical, logical_type, truth, falsity, conjunction, disjunction, implication, equality, universal, existential, nabla, judgement, focused_judgement, star, at_sign, plus, hash, spec_universal, spec_implication, spec_conjunction}
use Rattle.ab_term.specs.Terms.{Nominal, Variable, Head, constant, logical, nominal, variable, index, lam, spine, Terms, no_terms, term, Read}
use Rattle.ab_term.specs.Typing.{Signature, HasType, TakeType, typed_spine, take_none, take_term}
use Rattle.ab_term.specs.Variables.{image_by}
use Rattle.ab_theory.specs.Opening.{compound, atomic, undetermined, kind_of, is_undetermined}
use Rattle.ab_coverage.proofs.IndexedGoals as indexed
use Rattle.ab_coverage.proofs.IndexedGoals.{goal_form}
use Rattle.ab_coverage.proofs.IndexedSpecClauses.{SpecClause, under_binder, with_goal, taken_apart}
use Rattle.ab_coverage.proofs.Conjoined.{two_typed, scope_typed}
use Rattle.ab_coverage.proofs.Parts.{mapped_all}

-- what is determined stays
pub kind_stays : (f : Variable ℕ → Option Read) (G : Read) → is_undetermined (kind_of G) ≡ false → kind_of (image_by f G) ≡ kind_of G
kind_stays f (lam A x t) e = absurd (false≢true (sym e))
kind_stays f (spine (constant c) ts) e = refl
kind_stays f (spine (nominal a) ts) e = refl
kind_stays f (spine (logical l) ts) e = refl
kind_stays f (spine (variable y) ts) e = absurd (false≢true (sym e))
kind_stays f (spine (index i) ts) e = absurd (false≢true (sym e))

-- an atom has a constant as its head, or a nominal constant
pub data AtomKind : Read → Type 0 where
  of_constant : (p : List ℕ) (ts : Terms ℕ (List ℕ)) → AtomKind (spine (constant p) ts)
  of_nominal : (a : Nominal) (ts : Terms ℕ (List ℕ)) → AtomKind (spine (nominal a) ts)

pub atom_kind : (G : Read) → kind_of G ≡ atomic → AtomKind G
atom_kind (lam A x t) e = absurd (let bad : undetermined ≡ atomic = e in cc)
atom_kind (spine (constant p) ts) e = of_constant p ts
atom_kind (spine (nominal a) ts) e = of_nominal a ts
atom_kind (spine (logical l) ts) e = absurd (let bad : compound ≡ atomic = e in cc)
atom_kind (spine (variable y) ts) e = absurd (let bad : undetermined ≡ atomic = e in cc)
atom_kind (spine (index i) ts) e = absurd (let bad : undetermined ≡ atomic = e in cc)

-- the type that is left in the end
abbrev last : Ty → Ty
last (kind k) = kind k
last (arrow A B) = last B

module _ (sg : Signature) where
  taken_last : {G : List Ty} {ts : Terms ℕ (List ℕ)} {A C : Ty} → TakeType sg G ts A C → last A ≡ last C
  taken_last take_none = refl
  taken_last (take_term d ds) = taken_last ds

  logical_last : {G : List Ty} (l : Logical) (ts : Terms ℕ (List ℕ)) → HasType sg G (spine (logical l) ts) o → last (logical_type l) ≡ o
  logical_last l ts (typed_spine {A = A} e ds) =
      let same : logical_type l ≡ A = cc in
      ap last same ∙ taken_last ds

  no_formula : {X : Type 0} → prop ≡ o → X
  no_formula e = absurd (false≢true (ap (λ A. same_type A o) e))

  -- of the logical constants only those of the specification logic make its formulas
  pub logical_goal : {G : List Ty} (l : Logical) (ts : Terms ℕ (List ℕ)) → HasType sg G (spine (logical l) ts) o → goal_form (spine (logical l) ts) ≡ indexed.compound
  logical_goal truth ts d = no_formula (logical_last truth ts d)
  logical_goal falsity ts d = no_formula (logical_last falsity ts d)
  logical_goal conjunction ts d = no_formula (logical_last conjunction ts d)
  logical_goal disjunction ts d = no_formula (logical_last disjunction ts d)
  logical_goal implication ts d = no_formula (logical_last implication ts d)
  logical_goal (equality A) ts d = no_formula (logical_last (equality A) ts d)
  logical_goal (universal A) ts d = no_formula (logical_last (universal A) ts d)
  logical_goal (existential A) ts d = no_formula (logical_last (existential A) ts d)
  logical_goal (nabla A) ts d = no_formula (logical_last (nabla A) ts d)
  logical_goal judgement ts d = no_formula (logical_last judgement ts d)
  logical_goal focused_judgement ts d = no_formula (logical_last focused_judgement ts d)
  logical_goal (star i) ts d = no_formula (logical_last (star i) ts d)
  logical_goal (at_sign i) ts d = no_formula (logical_last (at_sign i) ts d)
  logical_goal (plus i) ts d = no_formula (logical_last (plus i) ts d)
  logical_goal (hash i) ts d = no_formula (logical_last (hash i) ts d)
  logical_goal (spec_universal A) ts d = refl
  logical_goal spec_implication ts d = refl
  logical_goal spec_conjunction ts d = refl

  -- how many arguments
  abbrev NoneLeft : Ty → Type 0
  NoneLeft (kind k) = Unit {0}
  NoneLeft (arrow A B) = ⊥

  at_kind : {G : List Ty} {A : Ty} {k : List ℕ} → TakeType sg {Var = ℕ} {Hint = List ℕ} G no_terms A (kind k) → NoneLeft A
  at_kind take_none = tt

  at_arrow : {G : List Ty} {A C : Ty} {v : Read} {us : Terms ℕ (List ℕ)} → TakeType sg G (term v us) A C → (B : Ty) × (D : Ty) × (A ≡ arrow B D) × HasType sg G v B × TakeType sg G us D C
  at_arrow (take_term {A = B} {B = D} d ds) = (B, D, refl, d, ds)

  of_head : {G : List Ty} (l : Logical) {ts : Terms ℕ (List ℕ)} → HasType sg G (spine (logical l) ts) o → TakeType sg G ts (logical_type l) o
  of_head {G = G} l {ts = ts} (typed_spine {A = A} e ds) = let same : logical_type l ≡ A = cc in subst (λ B. TakeType sg G ts B o) (sym same) ds

  spine_kind : {G : List Ty} {h : Head ℕ} {ts : Terms ℕ (List ℕ)} {A B : Ty} → HasType sg G (spine h ts) A → A ≡ arrow B o → ⊥
  spine_kind {B = B} (typed_spine {k = k} e ds) q = let bad : kind k ≡ arrow B o = q in cc

  -- no atom of a part is made of others
  abbrev NotCompound : SpecClause (List ℕ) → Type 0
  NotCompound c = goal_form c.atom ≡ indexed.compound → ⊥

  abbrev alone : Read → SpecClause (List ℕ)
  alone F = record { binders = []; goals = []; atom = F }

  nothing_else : (F : Read) → ⊥ → All NotCompound (alone F ∷ [])
  nothing_else F e = absurd e

  two_given : {G : List Ty} (l : Logical) {ts : Terms ℕ (List ℕ)} → logical_type l ≡ arrow o (arrow o o) → HasType sg G (spine (logical l) ts) o → TakeType sg G ts (arrow o (arrow o o)) o
  two_given {G = G} l {ts = ts} e d = subst (λ B. TakeType sg G ts B o) e (of_head l d)

  none_of_two : {G : List Ty} {A B : Ty} → TakeType sg {Var = ℕ} {Hint = List ℕ} G no_terms (arrow A B) o → ⊥
  none_of_two d = at_kind d

  one_of_two : {G : List Ty} {A B C : Ty} {v : Read} → TakeType sg G (term v no_terms) (arrow A (arrow B C)) o → ⊥
  one_of_two {G = G} {A = A} {B = B} {C = C} d =
      let r = at_arrow d in
      let whole : arrow A (arrow B C) ≡ arrow r.0 r.1 = r.2 in
      let same : arrow B C ≡ r.1 = cc in
      at_kind (subst (λ D. TakeType sg {Var = ℕ} {Hint = List ℕ} G no_terms D o) (sym same) r.4)

  pub atoms_simple : {G : List Ty} (F : Read) → HasType sg G F o → All NotCompound (taken_apart F)
  atoms_simple {G = G} (spine (logical (spec_universal A)) (term (lam B x F) no_terms)) d =
      mapped_all NotCompound (under_binder x A) (taken_apart F) (atoms_simple {G = A ∷ G} F (scope_typed sg A B x F d).1)
  atoms_simple (spine (logical spec_implication) (term G (term F no_terms))) d = mapped_all NotCompound (with_goal G) (taken_apart F) (atoms_simple F (two_typed sg spec_implication G F refl d).1)
  atoms_simple (spine (logical spec_conjunction) (term F (term G no_terms))) d =
      let parts = two_typed sg spec_conjunction F G refl d in
      All-append NotCompound (taken_apart F) (taken_apart G) (atoms_simple F parts.0) (atoms_simple G parts.1)
  atoms_simple (spine (logical (spec_universal A)) no_terms) d = nothing_else (spine (logical (spec_universal A)) no_terms) (at_kind (of_head (spec_universal A) d))
  atoms_simple (spine (logical (spec_universal A)) (term (spine h ts) no_terms)) d =
      let r = at_arrow (of_head (spec_universal A) d) in
      nothing_else (spine (logical (spec_universal A)) (term (spine h ts) no_terms)) (spine_kind r.3 (let same : arrow (arrow A o) o ≡ arrow r.0 r.1 = r.2 in let first : r.0 ≡ arrow A o = cc in first))
  atoms_simple {G = G} (spine (logical (spec_universal A)) (term t (term u us))) d =
      let r = at_arrow (of_head (spec_universal A) d) in
      let whole : arrow (arrow A o) o ≡ arrow r.0 r.1 = r.2 in
      let same : o ≡ r.1 = cc in
      let q = at_arrow (subst (λ D. TakeType sg G (term u us) D o) (sym same) r.4) in
      nothing_else (spine (logical (spec_universal A)) (term t (term u us))) (let bad : o ≡ arrow q.0 q.1 = q.2 in cc)
  atoms_simple (spine (logical spec_implication) no_terms) d = nothing_else (spine (logical spec_implication) no_terms) (at_kind (of_head spec_implication d))
  atoms_simple (spine (logical spec_implication) (term t no_terms)) d = nothing_else (spine (logical spec_implication) (term t no_terms)) (one_of_two (of_head spec_implication d))
  atoms_simple (spine (logical spec_implication) (term t (term u (term v us)))) d = nothing_else (spine (logical spec_implication) (term t (term u (term v us)))) (three_of_two (of_head spec_implication d))
    where
      three_of_two : {H : List Ty} → TakeType sg H (term t (term u (term v us))) (arrow o (arrow o o)) o → ⊥
      three_of_two {H = H} e =
          let r = at_arrow e in
          let whole : arrow o (arrow o o) ≡ arrow r.0 r.1 = r.2 in
          let one : arrow o o ≡ r.1 = cc in
          let q = at_arrow (subst (λ D. TakeType sg H (term u (term v us)) D o) (sym one) r.4) in
          let inner : arrow o o ≡ arrow q.0 q.1 = q.2 in
          let two : o ≡ q.1 = cc in
          let p = at_arrow (subst (λ D. TakeType sg H (term v us) D o) (sym two) q.4) in
          let bad : o ≡ arrow p.0 p.1 = p.2 in cc
  atoms_simple (spine (logical spec_conjunction) no_terms) d = nothing_else (spine (logical spec_conjunction) no_terms) (at_kind (of_head spec_conjunction d))
  atoms_simple (spine (logical spec_conjunction) (term t no_terms)) d = nothing_else (spine (logical spec_conjunction) (term t no_terms)) (one_of_two (of_head spec_conjunction d))
  atoms_simple (spine (logical spec_conjunction) (term t (term u (term v us)))) d = nothing_else (spine (logical spec_conjunction) (term t (term u (term v us)))) (three_of_two (of_head spec_conjunction d))
    where
      three_of_two : {H : List Ty} → TakeType sg H (term t (term u (term v us))) (arrow o (arrow o o)) o → ⊥
      three_of_two {H = H} e =
          let r = at_arrow e in
          let whole : arrow o (arrow o o) ≡ arrow r.0 r.1 = r.2 in
          let one : arrow o o ≡ r.1 = cc in
          let q = at_arrow (subst (λ D. TakeType sg H (term u (term v us)) D o) (sym one) r.4) in
          let inner : arrow o o ≡ arrow q.0 q.1 = q.2 in
          let two : o ≡ q.1 = cc in
          let p = at_arrow (subst (λ D. TakeType sg H (term v us) D o) (sym two) q.4) in
          let bad : o ≡ arrow p.0 p.1 = p.2 in cc
  atoms_simple F d = All-cons NotCompound (alone F) [] (λ e. let bad : goal_form F ≡ indexed.compound = e in cc) (All-nil NotCompound)

  -- a determined atom that isn't made of others
  pub simple_atom : {G : List Ty} (t : Read) → HasType sg G t o → (goal_form t ≡ indexed.compound → ⊥) → is_undetermined (kind_of t) ≡ false → goal_form t ≡ indexed.atomic
  simple_atom (lam A x t) d n e = absurd (false≢true (sym e))
  simple_atom (spine (constant c) ts) d n e = refl
  simple_atom (spine (nominal a) ts) d n e = refl
  simple_atom (spine (logical l) ts) d n e = absurd (n (logical_goal l ts d))
  simple_atom (spine (variable y) ts) d n e = absurd (false≢true (sym e))
  simple_atom (spine (index i) ts) d n e = absurd (false≢true (sym e))
