-- A kept clause is a clause: its prefix is taken off binder by binder.
use Rattle.std.proofs.Common.{◌≡◌, ℕ, zero, suc, List, [], ◌∷◌, ◌++◌, length, true, Option, Some, None, refl, sym, ◌∙◌, ap, subst}
use Rattle.std.specs.Prelude.{Contains}
use Rattle.std.proofs.lemmas.Bool.{false≢true}
use Rattle.ab_term.specs.Types.{Ty, arrow, prop}
use Rattle.ab_term.specs.Logical.{truth, falsity, conjunction, disjunction, implication, equality, universal, existential, nabla, judgement, focused_judgement, star, at_sign, plus, hash, spec_universal, spec_implication, spec_conjunction}
use Rattle.ab_term.specs.Terms.{Nominal, Variable, constant, logical, nominal, variable, index, Term, lam, spine, Terms, no_terms, term}
use Rattle.ab_term.specs.Typing.{Signature, HasType, typed_spine, take_term}
use Rattle.ab_term.specs.Substitution.{shift, substitute}
use Rattle.ab_term.specs.Expansion.{expansion}
use Rattle.ab_term.specs.Names.{support, support_of_all}
use Rattle.ab_term.specs.Variables.{Substitution, variables, value_in, image, image_by, IsTyped}
use Rattle.ab_term.specs.Sameness.{same_number}
use Rattle.ab_term.proofs.Compositions.{image_typed}
use Rattle.ab_term.proofs.Expansions.{expansion_typed}
use Rattle.ab_term.proofs.Lists.{Contains-none, Contains-here}
use Rattle.ab_term.proofs.Preservation.{instance_typed}
use Rattle.ab_term.proofs.Standing.{instance_has}
use Rattle.ab_term.proofs.Stands.{Either}
use Rattle.ab_unifiers.specs.Replacements.{Cell, holds}
use Rattle.ab_unifiers.proofs.Agreeing.{holds_front, holds_behind, holds_itself}
use Rattle.ab_unifiers.specs.Clauses.{Each, numbered, put_together, head_of, IsClause}
use Rattle.ab_unifiers.specs.Alternatives.{cells_of}
use Rattle.ab_unifiers.specs.Prefixes.{prefix, IsHead, opened, predicate_of, arguments_of, own_terms, clause_of, IsKept}
use Rattle.ab_unifiers.proofs.Constants as constants
use Rattle.ab_unifiers.proofs.Variables as over
use Rattle.ab_unifiers.proofs.Rows.{each_any, found_has, found_none, nothing_found, together_typed}
use Rattle.ab_unifiers.proofs.Unifier.{append-none}

-- a head, seen as a prefix and an atom
data View {Hint : Type 0} : Term ℕ Hint → Type 0 where
  an_atom : (c : List ℕ) (ts : Terms ℕ Hint) → View (spine (constant c) ts)
  a_nabla : (A B : Ty) (y : Hint) (t : Term ℕ Hint) → View t → View (spine (logical (nabla A)) (term (lam B y t) no_terms))

module _ {Hint : Type 0} where
  view : (t : Term ℕ Hint) → IsHead t → View t
  view (lam A x t) h = absurd h
  view (spine (constant c) ts) h = an_atom c ts
  view (spine (nominal a) ts) h = absurd h
  view (spine (variable y) ts) h = absurd h
  view (spine (index i) ts) h = absurd h
  view (spine (logical truth) ts) h = absurd h
  view (spine (logical falsity) ts) h = absurd h
  view (spine (logical conjunction) ts) h = absurd h
  view (spine (logical disjunction) ts) h = absurd h
  view (spine (logical implication) ts) h = absurd h
  view (spine (logical (equality A)) ts) h = absurd h
  view (spine (logical (universal A)) ts) h = absurd h
  view (spine (logical (existential A)) ts) h = absurd h
  view (spine (logical judgement) ts) h = absurd h
  view (spine (logical focused_judgement) ts) h = absurd h
  view (spine (logical (star i)) ts) h = absurd h
  view (spine (logical (at_sign i)) ts) h = absurd h
  view (spine (logical (plus i)) ts) h = absurd h
  view (spine (logical (hash i)) ts) h = absurd h
  view (spine (logical (spec_universal A)) ts) h = absurd h
  view (spine (logical spec_implication) ts) h = absurd h
  view (spine (logical spec_conjunction) ts) h = absurd h
  view (spine (logical (nabla A)) no_terms) h = absurd h
  view (spine (logical (nabla A)) (term (spine g us) ts)) h = absurd h
  view (spine (logical (nabla A)) (term (lam B x t) (term u us))) h = absurd h
  view (spine (logical (nabla A)) (term (lam B x t) no_terms)) h = a_nabla A B x t (view t h)

  -- substitution and images leave the prefix
  substituted : (A : Ty) {t : Term ℕ Hint} → View t → (u : Term ℕ Hint) (k : ℕ) → View (substitute A u k t) × (prefix (substitute A u k t) ≡ prefix t)
  substituted A (an_atom c ts) u k = (an_atom c _, refl)
  substituted A (a_nabla B C y t v) u k =
      let r = substituted A v (shift zero u) (suc k) in
      (a_nabla B C y (substitute A (shift zero u) (suc k) t) r.0, ap (λ l. record { hint = y; type = B } ∷ l) r.1)

  imaged : (f : Variable ℕ → Option (Term ℕ Hint)) {t : Term ℕ Hint} → View t → View (image_by f t) × (prefix (image_by f t) ≡ prefix t)
  imaged f (an_atom c ts) = (an_atom c _, refl)
  imaged f (a_nabla B C y t v) =
      let r = imaged f v in
      (a_nabla B C y (image_by f t) r.0, ap (λ l. record { hint = y; type = B } ∷ l) r.1)

  -- an atom is its predicate with its arguments
  whole : (r : Term ℕ Hint) (c : List ℕ) (ts : Terms ℕ Hint) → r ≡ spine (constant c) ts → spine (constant (predicate_of r)) (arguments_of r) ≡ r
  whole r c ts e = ap (λ s. spine (constant (predicate_of s)) (arguments_of s)) e ∙ sym e

none_there : (xs : List Nominal) → ((a : Nominal) → Contains xs a → ⊥) → xs ≡ []
none_there [] f = refl
none_there (a ∷ xs) f = absurd (f a (Contains-here a xs))

abbrev NoConstant : Nominal → Type 0
NoConstant a = ⊥

module _ (sg : Signature) {Hint : Type 0} where
  nabla_scope : {A B : Ty} {y : Hint} {t : Term ℕ Hint} → HasType sg [] (spine (logical (nabla A)) (term (lam B y t) no_terms)) prop → HasType sg [] (lam B y t) (arrow A prop)
  nabla_scope {A = A} {B = B} {y = y} {t = t} (typed_spine e (take_term {A = D} d ds)) = let same : D ≡ arrow A prop = cc in subst (HasType sg [] (lam B y t)) same d

  module _ (x : Hint) (Q : Variable ℕ → Type 0) where
    -- what is known of a head without its prefix
    record IsOpened (r : Term ℕ Hint) : Type 0 where
      pub is_atom : (c : List ℕ) × (ts : Terms ℕ Hint) × (r ≡ spine (constant c) ts)
      pub typed : HasType sg [] r prop
      pub nameless : constants.Has NoConstant r
      pub within : over.Has Q r

    opened_right : (zs : List (Cell Hint)) (n : ℕ) {t : Term ℕ Hint} → View t → prefix t ≡ zs → HasType sg [] t prop → constants.Has NoConstant t → over.Has Q t
        → ((y : Variable ℕ) → holds (numbered n zs) y ≡ true → Q y) → IsOpened (opened t (own_terms x (numbered n zs)))
    opened_right [] n (an_atom c ts) e d h o f = record { is_atom = (c, ts, refl); typed = d; nameless = h; within = o }
    opened_right [] n (a_nabla A B y t v) e d h o f = absurd (cc)
    opened_right (z ∷ zs) n (an_atom c ts) e d h o f = absurd (cc)
    opened_right (z ∷ zs) n (a_nabla A B y t v) e d h o f =
        let one : z.type ≡ A = cc in
        let rest : prefix t ≡ zs = cc in
        let w : Variable ℕ = record { name = n; type = z.type } in
        let u : Term ℕ Hint = expansion x z.type (variable w) in
        let r = substituted B v u zero in
        opened_right zs (suc n) r.0 (r.1 ∙ rest)
        (instance_typed sg (nabla_scope d) (subst (HasType sg [] u) one (expansion_typed sg x z.type [] (variable w) refl)))
        (instance_has (Either NoConstant constants.Any) (lam B y t) u h.1.0 (constants.expansion_of_has NoConstant x z.type (variable w) no_terms tt tt))
        (instance_has (Either over.Any Q) (lam B y t) u o.1.0 (over.expansion_of_has Q x z.type (variable w) no_terms (f w (holds_front (w ∷ []) (numbered (suc n) zs) w (holds_itself w))) tt))
        (λ i g. f i (holds_behind (w ∷ []) (numbered (suc n) zs) i g))

  module _ (x : Hint) (cells : List (Cell Hint)) where
    owns_typed : (n : ℕ) (ys : List (Variable ℕ)) → Each (λ y t. HasType sg [] t y.type) ys (own_terms x (numbered n (cells_of x cells ys)))
    owns_typed n [] = tt
    owns_typed n (y ∷ ys) = (expansion_typed sg x y.type [] (variable (record { name = n; type = y.type })) refl, owns_typed (suc n) ys)

    owns_nameless : (n : ℕ) (ys : List (Variable ℕ)) → Each (λ y t. constants.Has NoConstant t) ys (own_terms x (numbered n (cells_of x cells ys)))
    owns_nameless n [] = tt
    owns_nameless n (y ∷ ys) = (constants.expansion_of_has NoConstant x y.type (variable (record { name = n; type = y.type })) no_terms tt tt, owns_nameless (suc n) ys)

    owns_within : (Q : Variable ℕ → Type 0) (n : ℕ) (ys : List (Variable ℕ)) → ((y : Variable ℕ) → holds (numbered n (cells_of x cells ys)) y ≡ true → Q y)
        → Each (λ y t. over.Has Q t) ys (own_terms x (numbered n (cells_of x cells ys)))
    owns_within Q n [] f = tt
    owns_within Q n (y ∷ ys) f =
        let w : Variable ℕ = record { name = n; type = y.type } in
        let more = numbered (suc n) (cells_of x cells ys) in
        (over.expansion_of_has Q x y.type (variable w) no_terms (f w (holds_front (w ∷ []) more w (holds_itself w))) tt, owns_within Q (suc n) ys (λ i g. f i (holds_behind (w ∷ []) more i g)))

    module _ (ys : List (Variable ℕ)) (head body : Term ℕ Hint) (kept : IsKept sg ys head body) where
      abbrev own : List (Cell Hint)
      own = cells_of x cells ys

      abbrev targets : List (Term ℕ Hint)
      targets = own_terms x (numbered 0 own)

      abbrev to_own : Substitution ℕ Hint
      to_own = put_together ys targets

      abbrev InHead : Variable ℕ → Type 0
      InHead y = holds (numbered 0 own ++ numbered (length own) (prefix head)) y ≡ true

      abbrev InBody : Variable ℕ → Type 0
      InBody y = holds (numbered 0 own) y ≡ true

      to_own_typed : IsTyped sg to_own
      to_own_typed = together_typed sg ys targets (owns_typed 0 ys)

      put_has : (Q : Term ℕ Hint → Type 0) → Each (λ y t. Q t) ys targets → (y : Variable ℕ) (t : Term ℕ Hint) → value_in same_number to_own y ≡ Some t → Q t
      put_has Q e y t g = found_has Q ys targets [] e (nothing_found Q) y t (ap (λ q. value_in same_number q y) (append-none to_own) ∙ g)

      all_replaced : (y : Variable ℕ) → value_in same_number to_own y ≡ None → holds ys y ≡ true → ⊥
      all_replaced y e h = false≢true (sym (found_none ys targets [] (each_any (λ y t. HasType sg [] t y.type) ys targets (owns_typed 0 ys)) y (ap (λ q. value_in same_number q y) (append-none to_own) ∙ e)).0 ∙ h)

      nameless : (t : Term ℕ Hint) → support t ≡ [] → constants.Has NoConstant (image same_number to_own t)
      nameless t e = constants.image_by_has NoConstant (value_in same_number to_own) (put_has (constants.Has NoConstant) (owns_nameless 0 ys)) t
          (constants.support_has NoConstant t (λ a m. Contains-none a (subst (λ l. Contains l a) e m)))

      within : (Q : Variable ℕ → Type 0) → ((y : Variable ℕ) → holds (numbered 0 own) y ≡ true → Q y) → (t : Term ℕ Hint) → ((y : Variable ℕ) → holds (variables t) y ≡ true → holds ys y ≡ true) → over.Has Q (image same_number to_own t)
      within Q f t v = over.image_by_has (λ y. holds ys y ≡ true) Q (value_in same_number to_own) (put_has (over.Has Q) (owns_within Q 0 ys f)) (λ y e h. absurd (all_replaced y e h)) t (over.held_has (λ y. holds ys y ≡ true) t v)

      abbrev atom : Term ℕ Hint
      atom = opened (image same_number to_own head) (own_terms x (numbered (length own) (prefix head)))

      right : IsOpened x InHead atom
      right =
          let v = imaged (value_in same_number to_own) (view head kept.is_head) in
          opened_right x InHead (prefix head) (length own) v.0 v.1 (image_typed sg same_number to_own to_own_typed kept.head) (nameless head kept.head_without_constants)
          (within InHead (λ y h. holds_front (numbered 0 own) (numbered (length own) (prefix head)) y h) head kept.head_variables)
          (λ y h. holds_behind (numbered 0 own) (numbered (length own) (prefix head)) y h)

      -- the clause's head is the kept one, its names put for the binders of the prefix
      pub head_whole : head_of (clause_of x cells ys head body) ≡ atom
      head_whole = whole atom right.is_atom.0 right.is_atom.1 right.is_atom.2

      pub kept_clause : IsClause sg (clause_of x cells ys head body)
      kept_clause = record {
        head = subst (λ t. HasType sg [] t prop) (sym head_whole) right.typed;
        body = image_typed sg same_number to_own to_own_typed kept.body;
        head_without_constants = none_there (support_of_all (arguments_of atom)) (λ a m. constants.has_support NoConstant atom right.nameless a (subst (λ t. Contains (support t) a) head_whole m));
        body_without_constants = none_there (support (image same_number to_own body)) (constants.has_support NoConstant (image same_number to_own body) (nameless body kept.body_without_constants));
        head_variables = λ y h. over.has_held InHead atom right.within y (subst (λ t. holds (variables t) y ≡ true) head_whole h);
        body_variables = λ y h. over.has_held InBody (image same_number to_own body) (within InBody (λ y h. h) body kept.body_variables) y h;
      }
