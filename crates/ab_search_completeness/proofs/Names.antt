-- NAMES OF BINDERS UNDER A GUESS: a name stands in what a term becomes only where it stands in the term, and does where it stands there firmly.
use Rattle.std.proofs.Common.{◌≡◌, inl, inr, ℕ, suc, ◌<◌, List, [], ◌∷◌, map, length, Bool, true, false, ◌||◌, ◌&&◌, not, None, refl, sym, ◌∙◌, ap, subst, arith}
use Rattle.std.specs.List.{list_any}
use Rattle.std.proofs.lemmas.Bool.{false≢true, or_left, or_right, or_cases, and_right, false_from_ne_true}
use Rattle.ab_term.specs.Terms.{Variable, Head, constant, logical, nominal, variable, index, Term, lam, spine, Terms, no_terms, term, Read}
use Rattle.ab_term.specs.Substitution.{lower_head}
use Rattle.ab_term.specs.Translation.{translate_head, forget, forget_all}
use Rattle.ab_term.specs.Variables.{put_for, put_at, image_by, image_all_by}
use Rattle.ab_term.proofs.ClosedMaps.{IsClosedMap, shift-image}
use Rattle.ab_unifiers.specs.Replacements.{Cell, holds, is_flexible}
use Rattle.ab_unifiers.proofs.Following.{Put}
use Rattle.ab_coverage.specs.VacuousNames.{is_binder_at, stands, stands_all, lower}
use Rattle.ab_coverage.proofs.IndexedSpecClauses.{in_goals_only}
use Rattle.ab_coverage.proofs.Lowered.{lowered, stands-shift}
use Rattle.ab_search_completeness.specs.Firm.{stands_firmly, all_stand_firmly}

pub head_bare : (h : Head ℕ) → translate_head (λ v. v) h ≡ h
head_bare (constant c) = refl
head_bare (logical l) = refl
head_bare (nominal a) = refl
head_bare (variable y) = refl
head_bare (index i) = refl

mutual
  -- hints don't count
  pub stands_bare : (k : ℕ) (t : Read) → stands k (forget t) ≡ stands k t
  stands_bare k (lam A x t) = stands_bare (suc k) t
  stands_bare k (spine h ts) = ap (λ g. is_binder_at (lower_head k g) || stands_all k (forget_all ts)) (head_bare h) ∙ ap (λ b. is_binder_at (lower_head k h) || b) (all_stand_bare k ts)

  all_stand_bare : (k : ℕ) (ts : Terms ℕ (List ℕ)) → stands_all k (forget_all ts) ≡ stands_all k ts
  all_stand_bare k no_terms = refl
  all_stand_bare k (term t ts) = ap (λ b. b || stands_all k (forget_all ts)) (stands_bare k t) ∙ ap (λ b. stands k t || b) (all_stand_bare k ts)

-- closed after and before; open after and before; or closed before alone, since the name stands nowhere after
abbrev pub OneFewer : Bool → Bool → ℕ → List Read → Read → Type 0
OneFewer true true k Gs A = Unit {0}
OneFewer false false k Gs A = Unit {0}
OneFewer false true k Gs A = (list_any (stands k) Gs ≡ false) × (stands k A ≡ false)
OneFewer true false k Gs A = ⊥

not_flexible : (a b : Bool) → (not a && b) ≡ true → (a ≡ false) × (b ≡ true)
not_flexible true b e = absurd (false≢true e)
not_flexible false b e = (refl, e)

module _ (f : Put) (closed : IsClosedMap f) where
  -- no more
  pub stands_before : (k : ℕ) (t : Term ℕ (Unit {0})) → stands k (image_by f t) ≡ true → stands k t ≡ true
  stands_before k t e = go (stands k t) refl
    where
      go : (b : Bool) → stands k t ≡ b → b ≡ true
      go true q = refl
      go false q =
          absurd (false≢true (sym (ap (stands k) (ap (image_by f) (lowered k t q) ∙ sym (shift-image f closed (lower k t) k)) ∙ stands-shift k (image_by f (lower k t))) ∙ e))

  module _ (ys : List (Variable ℕ)) (others : (y : Variable ℕ) → holds ys y ≡ false → f y ≡ None) where
    -- a head that may not be replaced stays
    pub head_stays : (h : Head ℕ) (vs : Terms ℕ (Unit {0})) → is_flexible ys h ≡ false → put_at f h vs ≡ spine h vs
    head_stays (constant c) vs e = refl
    head_stays (logical l) vs e = refl
    head_stays (nominal a) vs e = refl
    head_stays (variable y) vs e = ap (λ o. put_for y o vs) (others y e)
    head_stays (index i) vs e = refl

    mutual
      -- no less, where it is firm
      pub stands_after : (k : ℕ) (t : Read) → stands_firmly ys k t ≡ true → stands k (image_by f (forget t)) ≡ true
      stands_after k (lam A x t) e = stands_after (suc k) t e
      stands_after k (spine h ts) e =
          let two = not_flexible (is_flexible ys h) (is_binder_at (lower_head k h) || all_stand_firmly ys k ts) e in
          let here : image_by f (forget (spine h ts)) ≡ spine h (image_all_by f (forget_all ts)) = ap (λ g. put_at f g (image_all_by f (forget_all ts))) (head_bare h) ∙ head_stays h (image_all_by f (forget_all ts)) two.0 in
          ap (stands k) here ∙ elim (or_cases (is_binder_at (lower_head k h)) (all_stand_firmly ys k ts) two.1) [
            | inl a ↦ or_left (is_binder_at (lower_head k h)) (stands_all k (image_all_by f (forget_all ts))) a
            | inr b ↦ or_right (is_binder_at (lower_head k h)) (stands_all k (image_all_by f (forget_all ts))) (all_stand_after k ts b)
          ]

      all_stand_after : (k : ℕ) (ts : Terms ℕ (List ℕ)) → all_stand_firmly ys k ts ≡ true → stands_all k (image_all_by f (forget_all ts)) ≡ true
      all_stand_after k no_terms e = absurd (false≢true e)
      all_stand_after k (term t ts) e = elim (or_cases (stands_firmly ys k t) (all_stand_firmly ys k ts) e) [
        | inl a ↦ or_left (stands k (image_by f (forget t))) (stands_all k (image_all_by f (forget_all ts))) (stands_after k t a)
        | inr b ↦ or_right (stands k (image_by f (forget t))) (stands_all k (image_all_by f (forget_all ts))) (all_stand_after k ts b)
      ]

    -- ONE NAME OF A PART, before and after
    module _ (k : ℕ) (atom atom2 : Read) (goals goals2 : List Read) (atoms : image_by f (forget atom) ≡ forget atom2) (all : map (λ G. image_by f (forget G)) goals ≡ map forget goals2) where
      abbrev after : List Read → Bool
      after Gs = list_any (λ G. stands k (image_by f (forget G))) Gs

      atom_after : stands k atom2 ≡ stands k (image_by f (forget atom))
      atom_after = sym (stands_bare k atom2) ∙ ap (stands k) (sym atoms)

      mapped : (Gs Hs : List Read) → map (λ G. image_by f (forget G)) Gs ≡ map forget Hs → list_any (stands k) Hs ≡ after Gs
      mapped [] [] e = refl
      mapped [] (H ∷ Hs) e = absurd (cc)
      mapped (G ∷ Gs) [] e = absurd (cc)
      mapped (G ∷ Gs) (H ∷ Hs) e =
          let first : image_by f (forget G) ≡ forget H = cc in
          let rest : map (λ G. image_by f (forget G)) Gs ≡ map forget Hs = cc in
          ap (λ b. b || list_any (stands k) Hs) (sym (stands_bare k H) ∙ ap (stands k) (sym first)) ∙ ap (λ b. stands k (image_by f (forget G)) || b) (mapped Gs Hs rest)

      any_before : (Gs : List Read) → after Gs ≡ true → list_any (stands k) Gs ≡ true
      any_before [] e = e
      any_before (G ∷ Gs) e = elim (or_cases (stands k (image_by f (forget G))) (after Gs) e) [
        | inl a ↦ or_left (stands k G) (list_any (stands k) Gs) (sym (stands_bare k G) ∙ stands_before k (forget G) a)
        | inr b ↦ or_right (stands k G) (list_any (stands k) Gs) (any_before Gs b)
      ]

      any_after : (Gs : List Read) → list_any (stands_firmly ys k) Gs ≡ true → after Gs ≡ true
      any_after [] e = e
      any_after (G ∷ Gs) e = elim (or_cases (stands_firmly ys k G) (list_any (stands_firmly ys k) Gs) e) [
        | inl a ↦ or_left (stands k (image_by f (forget G))) (after Gs) (stands_after k G a)
        | inr b ↦ or_right (stands k (image_by f (forget G))) (after Gs) (any_after Gs b)
      ]

      abbrev first_bit : Bool
      first_bit = list_any (stands k) goals && not (stands k atom)

      abbrev second_bit : Bool
      second_bit = list_any (stands k) goals2 && not (stands k atom2)

      -- of what is closed before, what is closed after
      pub bit_fewer : (stands k atom ≡ true → stands_firmly ys k atom ≡ true) → OneFewer second_bit first_bit k goals2 atom2
      bit_fewer in_atom = by_atom (stands k atom) refl
        where
          by_goals : (b c : Bool) → list_any (stands k) goals2 ≡ b → list_any (stands k) goals ≡ c → stands k atom2 ≡ false → OneFewer (b && true) (c && true) k goals2 atom2
          by_goals true true e g n = tt
          by_goals false false e g n = tt
          by_goals false true e g n = (e, n)
          by_goals true false e g n = absurd (false≢true (sym g ∙ any_before goals (sym (mapped goals goals2 all) ∙ e)))

          by_atom : (b : Bool) → stands k atom ≡ b → OneFewer second_bit first_bit k goals2 atom2
          by_atom true e =
              let one : second_bit ≡ false = and_right (list_any (stands k) goals2) (not (stands k atom2)) (ap not (atom_after ∙ stands_after k atom (in_atom e))) in
              let two : first_bit ≡ false = and_right (list_any (stands k) goals) (not (stands k atom)) (ap not e) in
              subst (λ b. OneFewer b first_bit k goals2 atom2) (sym one) (subst (λ b. OneFewer false b k goals2 atom2) (sym two) tt)
          by_atom false e =
              let gone : stands k atom2 ≡ false = false_from_ne_true (stands k atom2) (λ m. false≢true (sym e ∙ sym (stands_bare k atom) ∙ stands_before k (forget atom) (sym atom_after ∙ m))) in
              subst (λ b. OneFewer (list_any (stands k) goals2 && not b) first_bit k goals2 atom2) (sym gone)
              (subst (λ b. OneFewer (list_any (stands k) goals2 && true) (list_any (stands k) goals && not b) k goals2 atom2) (sym e)
              (by_goals (list_any (stands k) goals2) (list_any (stands k) goals) refl refl gone))

      pub bit_same : (stands k atom ≡ true → stands_firmly ys k atom ≡ true) → (stands k atom ≡ false → list_any (stands k) goals ≡ true → list_any (stands_firmly ys k) goals ≡ true)
          → (list_any (stands k) goals2 && not (stands k atom2)) ≡ (list_any (stands k) goals && not (stands k atom))
      bit_same in_atom in_goals = by_atom (stands k atom) refl
        where
          by_goals : (b : Bool) → list_any (stands k) goals ≡ b → stands k atom ≡ false → list_any (stands k) goals2 ≡ b
          by_goals true e n = mapped goals goals2 all ∙ any_after goals (in_goals n e)
          by_goals false e n = false_from_ne_true (list_any (stands k) goals2) (λ m. false≢true (sym e ∙ any_before goals (sym (mapped goals goals2 all) ∙ m)))

          by_atom : (b : Bool) → stands k atom ≡ b → (list_any (stands k) goals2 && not (stands k atom2)) ≡ (list_any (stands k) goals && not (stands k atom))
          by_atom true e =
              and_right (list_any (stands k) goals2) (not (stands k atom2)) (ap not (atom_after ∙ stands_after k atom (in_atom e)))
              ∙ sym (and_right (list_any (stands k) goals) (not (stands k atom)) (ap not e))
          by_atom false e =
              let gone : stands k atom2 ≡ false = false_from_ne_true (stands k atom2) (λ m. false≢true (sym e ∙ sym (stands_bare k atom) ∙ stands_before k (forget atom) (sym atom_after ∙ m))) in
              ap (λ b. b && not (stands k atom2)) (by_goals (list_any (stands k) goals) refl e) ∙ ap (λ b. list_any (stands k) goals && not b) (gone ∙ sym e)

-- THE NAMES THAT ARE CLOSED, after and before
abbrev pub Fewer : List Bool → List Bool → List (Cell (List ℕ)) → List Read → Read → Type 0
Fewer [] [] [] Gs A = Unit {0}
Fewer (x ∷ xs) (y ∷ ys) (b ∷ bs) Gs A = OneFewer x y (length bs) Gs A × Fewer xs ys bs Gs A
Fewer _ _ _ Gs A = ⊥

pub fewer : (bs cs : List (Cell (List ℕ))) (goals : List Read) (atom : Read) (goals2 : List Read) (atom2 : Read) → length bs ≡ length cs
    → ((k : ℕ) → k < length cs → OneFewer (list_any (stands k) goals2 && not (stands k atom2)) (list_any (stands k) goals && not (stands k atom)) k goals2 atom2) → Fewer (in_goals_only bs goals2 atom2) (in_goals_only cs goals atom) cs goals2 atom2
fewer [] [] goals atom goals2 atom2 e each = tt
fewer [] (c ∷ cs) goals atom goals2 atom2 e each = absurd (cc)
fewer (b ∷ bs) [] goals atom goals2 atom2 e each = absurd (cc)
fewer (b ∷ bs) (c ∷ cs) goals atom goals2 atom2 e each =
    let rest : length bs ≡ length cs = omega (arith, e) in (
      subst (λ n. OneFewer (list_any (stands n) goals2 && not (stands n atom2)) (list_any (stands (length cs)) goals && not (stands (length cs) atom)) (length cs) goals2 atom2) (sym rest) (each (length cs) (omega arith)),
      fewer bs cs goals atom goals2 atom2 rest (λ k l. each k (omega (arith, l))),
    )

pub fewer_same : (fs : List Bool) (bs : List (Cell (List ℕ))) (Gs : List Read) (A : Read) → length fs ≡ length bs → Fewer fs fs bs Gs A
fewer_same [] [] Gs A e = tt
fewer_same [] (b ∷ bs) Gs A e = absurd (cc)
fewer_same (f ∷ fs) [] Gs A e = absurd (cc)
fewer_same (true ∷ fs) (b ∷ bs) Gs A e = (tt, fewer_same fs bs Gs A (omega (arith, e)))
fewer_same (false ∷ fs) (b ∷ bs) Gs A e = (tt, fewer_same fs bs Gs A (omega (arith, e)))

-- THE NAMES THAT ARE CLOSED are the same where each bit is
pub bits_same : {X Y : Type 0} (bs : List (Cell X)) (cs : List (Cell Y)) (goals : List (Term ℕ X)) (atom : Term ℕ X) (goals2 : List (Term ℕ Y)) (atom2 : Term ℕ Y) → length bs ≡ length cs
    → ((k : ℕ) → k < length cs → (list_any (stands k) goals && not (stands k atom)) ≡ (list_any (stands k) goals2 && not (stands k atom2))) → in_goals_only bs goals atom ≡ in_goals_only cs goals2 atom2
bits_same [] [] goals atom goals2 atom2 e each = refl
bits_same [] (c ∷ cs) goals atom goals2 atom2 e each = absurd (cc)
bits_same (b ∷ bs) [] goals atom goals2 atom2 e each = absurd (cc)
bits_same (b ∷ bs) (c ∷ cs) goals atom goals2 atom2 e each =
    let rest : length bs ≡ length cs = omega (arith, e) in
    ap (λ n. (list_any (stands n) goals && not (stands n atom)) ∷ in_goals_only bs goals atom) rest
    ∙ ap (λ b. b ∷ in_goals_only bs goals atom) (each (length cs) (omega arith))
    ∙ ap (λ l. (list_any (stands (length cs)) goals2 && not (stands (length cs) atom2)) ∷ l) (bits_same bs cs goals atom goals2 atom2 rest (λ k l. each k (omega (arith, l))))
