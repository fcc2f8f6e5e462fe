-- The least nominal constant for the name of a `nabla`.
use Rattle.std.specs.Prelude.{◌↔◌, nat_lt, if◌then◌else◌, IsTrue}
use Rattle.std.specs.List.{All, Contains}
use Rattle.std.proofs.Common.{◌≡◌, ◌≢◌, ◌⊎◌, inl, inr, ℕ, ◌+◌, ◌<◌, ◌≤◌, List, [], ◌∷◌, ◌++◌, Bool, true, false, Some, bytes_eq, map, take, length, get_or, refl, sym, ◌∙◌, ap, subst, arith, append_assoc, append-nil}
use Rattle.std.proofs.lemmas.List.{take_more, map_more}
use Rattle.std.proofs.lemmas.List.Elements.{Contains-push, Contains-push_cases, Contains-append_left, Contains-append_right, Contains-append_cases}
use Rattle.ab_term.specs.Types.{Ty, same_type}
use Rattle.ab_term.specs.Terms as tree
use Rattle.ab_term.specs.Names.{support}
use Rattle.ab_term.proofs.Lists.{Contains-none, Contains-cases, Contains-map, Contains-from_map, All-from_contains}
use Rattle.ab_norm.specs.ab_types.specs.Entries.{Table}
use Rattle.ab_norm.specs.ab_types.specs.Ids.{HoldsType, type_of}
use Rattle.ab_norm.specs.ab_types.specs.Sound.{IsTable}
use Rattle.ab_norm.specs.ab_types.specs.declared.ids.TypeId.{TypeId}
use Rattle.ab_norm.specs.declared.nominal.Nominal.{Nominal}
use Rattle.ab_norm.specs.Nominals.{nominal_of, HoldsNominal}
use Rattle.ab_term.specs.Terms.{Read}
use Rattle.ab_formulas.specs.Sequents.{Sequent, Hypothesis, formulas, names_of, goal_names, named, formula_of}
use Rattle.ab_logic.specs.SequentReadings.{hypothesis_of}
use Rattle.ab_formulas.specs.NewNames.{IsLeast}
use Rattle.ab_theory.specs.Rules.{MayName}
use Rattle.ab_rules.specs.UsedNumbers.{Gains, Excluded, Blocked, IsAbsent}
use Rattle.ab_norm.specs.ab_types.proofs.Kept.{one_type}
use Rattle.ab_term.proofs.Comparisons.{same_type-Decides}
use Rattle.std.proofs.lemmas.Bool.{cases_lt}
use Rattle.ab_logic.specs.Worlds.{read}
use Rattle.ab_logic.specs.declared.world.World.{World}
use Rattle.ab_logic.specs.declared.sequent.Hypothesis.{Hypothesis as KeptHypothesis}
use Rattle.ab_formulas.proofs.Members.{contained, place_cases}

pub gains_not : (xs : List ℕ) (P : ℕ → Type 0) → ((n : ℕ) → P n → ⊥) → Gains xs xs P
gains_not xs P none = record { among = λ n c. inl c; kept = λ n c. c; gained = λ n p. absurd (none n p) }

pub gains_one : (xs new : List ℕ) (P : ℕ → Type 0) (m : ℕ) → new ≡ xs ++ m ∷ [] → P m → ((n : ℕ) → P n → m ≡ n) → Gains xs new P
gains_one xs new P m is here only =
    subst (λ zs. Gains xs zs P) (sym is) (record {
      among = λ n c. elim (Contains-push_cases xs m n c) [ inl d ↦ inl d | inr e ↦ inr (subst P e here) ];
      kept = λ n c. Contains-append_left xs (m ∷ []) n c;
      gained = λ n p. subst (Contains (xs ++ m ∷ [])) (only n p) (Contains-push xs m);
    })

pub gains_on : (xs ys zs : List ℕ) (P Q R : ℕ → Type 0) → Gains xs ys P → Gains ys zs Q → ((n : ℕ) → P n ⊎ Q n → R n) → ((n : ℕ) → R n → P n ⊎ Q n) → Gains xs zs R
gains_on xs ys zs P Q R a b to from = record {
  among = λ n c.
      elim (b.among n c) [
        | inl d ↦ elim (a.among n d) [ inl e ↦ inl e | inr p ↦ inr (to n (inl p)) ]
        | inr q ↦ inr (to n (inr q))
      ];
  kept = λ n c. b.kept n (a.kept n c);
  gained = λ n r. elim (from n r) [ inl p ↦ b.kept n (a.gained n p) | inr q ↦ b.gained n q ];
}

pub excluded_more : (all : Bool) (ty : TypeId) (names : List Nominal) (i : ℕ) (d : Nominal) (xs ys zs : List ℕ) → i < length names
    → Gains xs ys (Excluded all ty (take i names))
    → Gains ys zs (λ n. ((get_or names i d).number ≡ n) × (IsTrue all ⊎ ((get_or names i d).ty ≢ ty)))
    → Gains xs zs (Excluded all ty (take (i + 1) names))
excluded_more all ty names i d xs ys zs l a b =
    gains_on xs ys zs _ _ (Excluded all ty (take (i + 1) names)) a b
    (λ n c.
    elim c [
      | inl e ↦ (e.0, subst (λ ns. Contains ns e.0) (sym (take_more names i d l)) (Contains-append_left (take i names) (get_or names i d ∷ []) e.0 e.1), e.2, e.3)
      | inr e ↦ (get_or names i d, subst (λ ns. Contains ns (get_or names i d)) (sym (take_more names i d l)) (Contains-push (take i names) (get_or names i d)), e.0, e.1)
    ])
    (λ n e.
    elim (Contains-push_cases (take i names) (get_or names i d) e.0 (subst (λ ns. Contains ns e.0) (take_more names i d l) e.1)) [
      | inl c ↦ inl (e.0, c, e.2, e.3)
      | inr s ↦
          let same = sym s in
          inr (ap (λ (b : Nominal). b.number) s ∙ e.2, subst (λ (b : Nominal). IsTrue all ⊎ (b.ty ≢ ty)) same e.3)
    ])

pub gains_same : (xs ys : List ℕ) (P Q : ℕ → Type 0) → Gains xs ys P → ((n : ℕ) → P n → Q n) → ((n : ℕ) → Q n → P n) → Gains xs ys Q
gains_same xs ys P Q a to from = record {
  among = λ n c. elim (a.among n c) [ inl d ↦ inl d | inr p ↦ inr (to n p) ];
  kept = a.kept;
  gained = λ n q. a.gained n (from n q);
}

module _ (types : Table) (ok : IsTable types) (all : Bool) (ty : TypeId) (held : HoldsType types ty) (names : List Nominal) (held_all : All (HoldsNominal types) names)
    (S : List tree.Nominal) (same : (a : tree.Nominal) → Contains (map (nominal_of types) names) a ↔ Contains S a) where
  to_blocked : (n : ℕ) → Excluded all ty names n → Blocked all (type_of types ty) S n
  to_blocked n e =
      let b = e.0 in
      let there : HoldsType types b.ty = contained (HoldsNominal types) names held_all b e.1 in
      let why : IsTrue all ⊎ (type_of types b.ty ≢ type_of types ty) = elim e.3 [ inl t ↦ inl t | inr apart ↦ inr (λ s. apart (one_type types ok b.ty ty there held s)) ] in
      (nominal_of types b, (same (nominal_of types b)).0 (Contains-map (nominal_of types) names b e.1), e.2, why)

  from_blocked : (n : ℕ) → Blocked all (type_of types ty) S n → Excluded all ty names n
  from_blocked n e =
      let kept = Contains-from_map (nominal_of types) names e.0 ((same e.0).1 e.1) in
      let why : IsTrue all ⊎ (kept.0.ty ≢ ty) = elim e.3 [ inl t ↦ inl t | inr apart ↦ inr (λ s. apart (sym (ap (λ (x : tree.Nominal). x.type) kept.2) ∙ ap (type_of types) s)) ] in
      (kept.0, kept.1, ap (λ (x : tree.Nominal). x.number) kept.2 ∙ e.2, why)

  pub gains_blocked : (xs ys : List ℕ) → Gains xs ys (Excluded all ty names) → Gains xs ys (Blocked all (type_of types ty) S)
  gains_blocked xs ys g = gains_same xs ys (Excluded all ty names) (Blocked all (type_of types ty) S) g to_blocked from_blocked

-- constants of two lists
to_both : (all : Bool) (A : Ty) (S T : List tree.Nominal) (n : ℕ) → Blocked all A S n ⊎ Blocked all A T n → Blocked all A (S ++ T) n
to_both all A S T n (inl b) = (b.0, Contains-append_left S T b.0 b.1, b.2, b.3)
to_both all A S T n (inr b) = (b.0, Contains-append_right S T b.0 b.1, b.2, b.3)

from_both : (all : Bool) (A : Ty) (S T : List tree.Nominal) (n : ℕ) → Blocked all A (S ++ T) n → Blocked all A S n ⊎ Blocked all A T n
from_both all A S T n b =
    elim (Contains-append_cases S T b.0 b.1) [ inl c ↦ inl (b.0, c, b.2, b.3) | inr c ↦ inr (b.0, c, b.2, b.3) ]

-- what is not to be used: numbers of the first, and those of the second at another type
abbrev pub Unfit : Ty → List tree.Nominal → List tree.Nominal → ℕ → Type 0
Unfit A S T n = Blocked true A S n ⊎ Blocked false A T n

pub unfit_more : (A : Ty) (S T U V : List tree.Nominal) (xs ys zs : List ℕ) → V ≡ T ++ U → Gains xs ys (Unfit A S T) → Gains ys zs (Blocked false A U) → Gains xs zs (Unfit A S V)
unfit_more A S T U V xs ys zs is a b =
    subst (λ W. Gains xs zs (Unfit A S W)) (sym is)
    (gains_on xs ys zs (Unfit A S T) (Blocked false A U) (Unfit A S (T ++ U)) a b
    (λ n c. elim c [ inl d ↦ elim d [ inl e ↦ inl e | inr e ↦ inr (to_both false A T U n (inl e)) ] | inr e ↦ inr (to_both false A T U n (inr e)) ])
    (λ n c. elim c [ inl d ↦ inl (inl d) | inr d ↦ elim (from_both false A T U n d) [ inl e ↦ inl (inr e) | inr e ↦ inr e ] ]))

pub unfit_first : (A : Ty) (S T : List tree.Nominal) (xs ys zs : List ℕ) → Gains xs ys (Blocked true A S) → Gains ys zs (Blocked false A T) → Gains xs zs (Unfit A S (T ++ []))
unfit_first A S T xs ys zs a b =
    subst (λ W. Gains xs zs (Unfit A S W)) (sym (append-nil T))
    (gains_on xs ys zs (Blocked true A S) (Blocked false A T) (Unfit A S T) a b (λ n c. c) (λ n c. c))

-- the constants of the first hypotheses
abbrev pub names_in : List Hypothesis → List tree.Nominal
names_in hs = names_of (formulas hs)

names_push : (hs : List Hypothesis) (h : Hypothesis) → names_in (hs ++ h ∷ []) ≡ names_in hs ++ support h.formula
names_push [] h = append-nil (support h.formula)
names_push (g ∷ hs) h =
    ap (λ ns. support g.formula ++ ns) (names_push hs h) ∙ sym (append_assoc (support g.formula) (names_in hs) (support h.formula))

pub names_more : (w : World) (S : List tree.Nominal) (hs : List KeptHypothesis) (i : ℕ) (d h : KeptHypothesis) → i < length hs → h ≡ get_or hs i d
    → S ++ names_in (map (hypothesis_of w) (take (i + 1) hs)) ≡ (S ++ names_in (map (hypothesis_of w) (take i hs))) ++ support (read w h.formula)
names_more w S hs i d h l is =
    ap (λ ks. S ++ names_in ks) (map_more (hypothesis_of w) hs i d l)
    ∙ ap (λ ns. S ++ ns) (names_push (map (hypothesis_of w) (take i hs)) (hypothesis_of w (get_or hs i d)))
    ∙ ap (λ (k : KeptHypothesis). S ++ (names_in (map (hypothesis_of w) (take i hs)) ++ support (read w k.formula))) (sym is)
    ∙ sym (append_assoc S (names_in (map (hypothesis_of w) (take i hs))) (support (read w h.formula)))

-- how many of the numbers are at least n
abbrev pub at_least : ℕ → List ℕ → ℕ
at_least n [] = 0
at_least n (x ∷ xs) = (if nat_lt x n then 0 else 1) + at_least n xs

pub all_at_least : (n : ℕ) (xs : List ℕ) → at_least n xs ≤ length xs
all_at_least n [] = omega arith
all_at_least n (x ∷ xs) = elim (place_cases x n) [ inl c ↦ rw c.1 (omega (arith, all_at_least n xs)) | inr c ↦ rw c.1 (omega (arith, all_at_least n xs)) ]

fewer : (n x : ℕ) → (if nat_lt x (n + 1) then 0 else 1) ≤ (if nat_lt x n then 0 else 1)
fewer n x =
    elim (place_cases x n) [
      | inl c ↦ elim (place_cases x (n + 1)) [ inl d ↦ rw (c.1, d.1) (omega arith) | inr d ↦ absurd (omega (arith, c.0, d.0)) ]
      | inr c ↦ elim (place_cases x (n + 1)) [ inl d ↦ rw (c.1, d.1) (omega arith) | inr d ↦ rw (c.1, d.1) (omega arith) ]
    ]

fewer_here : (n : ℕ) → (if nat_lt n (n + 1) then 0 else 1) + 1 ≡ (if nat_lt n n then 0 else 1)
fewer_here n =
    elim (place_cases n n) [
      | inl c ↦ absurd (omega (arith, c.0))
      | inr c ↦ elim (place_cases n (n + 1)) [ inl d ↦ rw (c.1, d.1) refl | inr d ↦ absurd (omega (arith, d.0)) ]
    ]

none_more : (n : ℕ) (xs : List ℕ) → at_least (n + 1) xs ≤ at_least n xs
none_more n [] = omega arith
none_more n (x ∷ xs) = omega (arith, fewer n x, none_more n xs)

pub one_fewer : (n : ℕ) (xs : List ℕ) → Contains xs n → at_least (n + 1) xs + 1 ≤ at_least n xs
one_fewer n [] c = absurd (Contains-none n c)
one_fewer n (x ∷ xs) c =
    elim (Contains-cases x xs n c) [
      | inl e ↦
          subst (λ y. at_least (n + 1) (y ∷ xs) + 1 ≤ at_least n (y ∷ xs)) (sym e)
          (omega (arith, fewer_here n, none_more n xs))
      | inr d ↦ omega (arith, fewer n x, one_fewer n xs d)
    ]

-- the numbers below were all there
pub record Seeks (numbers : List ℕ) (n : ℕ) : Type 0 where
  pub positive : 1 ≤ n
  pub below : (m : ℕ) → m < n → IsAbsent numbers m → ⊥
  pub bound : n + at_least n numbers ≤ length numbers + 1

pub seeks_first : (numbers : List ℕ) → Seeks numbers 1
seeks_first numbers = record {
  positive = omega arith;
  below = λ m l absent. omega (arith, l, absent.positive);
  bound = omega (arith, all_at_least 1 numbers);
}

pub seeks_more : (numbers : List ℕ) (n : ℕ) → Seeks numbers n → Contains numbers n → Seeks numbers (n + 1)
seeks_more numbers n s there = record {
  positive = omega (arith, s.positive);
  below = λ m l absent.
      elim (cases_lt m n) [
        | inl k ↦ s.below m k absent
        | inr k ↦ let same : n ≡ m = omega arith in absent.absent (subst (Contains numbers) same there)
      ];
  bound = omega (arith, s.bound, one_fewer n numbers there);
}

type_test : (B C : Ty) → ((B ≢ C) → ⊥) → (b : Bool) → same_type B C ≡ b → B ≡ C
type_test B C not true e = (same_type-Decides B C).0 e
type_test B C not false e = absurd (not (λ f. let yes = (same_type-Decides B C).1 f in cc))

same_or_not : (B C : Ty) → ((B ≢ C) → ⊥) → B ≡ C
same_or_not B C not = type_test B C not (same_type B C) refl

-- the number may be used exactly where it isn't noted
module _ (s : Sequent) (F : Read) (A : Ty) (numbers : List ℕ) (g : Gains [] numbers (Unfit A (support F) (goal_names s)))
    (among : (a : tree.Nominal) → Contains (support F) a → Contains (goal_names s) a) where
  may : (n : ℕ) → IsAbsent numbers n → MayName s F A n
  may n absent = record {
    positive = absent.positive;
    outside = λ c. absent.absent (g.gained n (inl (record { number = n; type = A }, c, refl, inl refl)));
    one_type = All-from_contains (λ (b : tree.Nominal). b.number ≡ n → b.type ≡ A) (goal_names s) (λ b c e. same_or_not b.type A
        (λ apart. absent.absent (g.gained n (inr (b, c, e, inr apart)))));
  }

  may_not : (n : ℕ) → MayName s F A n → IsAbsent numbers n
  may_not n may = record {
    positive = may.positive;
    absent = λ c.
        elim (g.among n c) [
          | inl d ↦ Contains-none n d
          | inr u ↦
              elim u [
                | inl b ↦
                    let type : b.0.type ≡ A = contained (λ (x : tree.Nominal). x.number ≡ n → x.type ≡ A) (goal_names s) may.one_type b.0 (among b.0 b.1) b.2 in
                    let one : b.0 ≡ record { number = n; type = A } = ap (λ k. record { number = k; type = b.0.type }) b.2 ∙ ap (λ B. record { number = n; type = B }) type in
                    may.outside (subst (Contains (support F)) one b.1)
                | inr b ↦
                    let type : b.0.type ≡ A = contained (λ (x : tree.Nominal). x.number ≡ n → x.type ≡ A) (goal_names s) may.one_type b.0 b.1 b.2 in
                    elim b.3 [ inl t ↦ cc | inr apart ↦ apart type ]
              ]
        ];
  }

  pub least_may : (n : ℕ) → IsLeast (IsAbsent numbers) n → IsLeast (MayName s F A) n
  least_may n least = record { has = may n least.has; first = λ m l m_may. least.first m l (may_not m m_may) }

-- a hypothesis's constants are the goal's
at_test : (h : Hypothesis) (hs : List Hypothesis) (name : List ℕ) (F : Read) (b : Bool) → (if b then Some h.formula else named hs name) ≡ Some F → (a : tree.Nominal) → Contains (support F) a
    → (named hs name ≡ Some F → Contains (names_in hs) a) → Contains (names_in (h ∷ hs)) a
at_test h hs name F true p a c rest = let same : h.formula ≡ F = cc in Contains-append_left (support h.formula) (names_in hs) a (subst (λ G. Contains (support G) a) (sym same) c)
at_test h hs name F false p a c rest = Contains-append_right (support h.formula) (names_in hs) a (rest p)

in_hypotheses : (hs : List Hypothesis) (name : List ℕ) (F : Read) → named hs name ≡ Some F → (a : tree.Nominal) → Contains (support F) a → Contains (names_in hs) a
in_hypotheses [] name F e a c = absurd (cc)
in_hypotheses (h ∷ hs) name F e a c = at_test h hs name F (bytes_eq h.name name) e a c (λ p. in_hypotheses hs name F p a c)

pub in_goal : (s : Sequent) (name : List ℕ) (F : Read) → formula_of s name ≡ Some F → (a : tree.Nominal) → Contains (support F) a → Contains (goal_names s) a
in_goal s name F e a c = Contains-append_right (support s.conclusion) (names_in s.hypotheses) a (in_hypotheses s.hypotheses name F e a c)
