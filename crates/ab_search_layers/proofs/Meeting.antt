-- A HYPOTHESIS AND A CONCLUSION MEET where they come to the same formula once judgements are opened whole, in the one or in the other.
use Rattle.std.proofs.Common.{◌≡◌, ℕ, zero, suc, ◌+◌, List, Option, Some, None, option_map, refl, sym, ◌∙◌, ap, subst, arith}
use Rattle.ab_term.specs.Types.{Ty, kind, arrow, o, prop}
use Rattle.ab_term.specs.Logical as plain
use Rattle.ab_term.specs.Logical.{Logical}
use Rattle.ab_term.specs.Terms.{constant, logical, nominal, variable, index, lam, spine, Terms, no_terms, term, Read}
use Rattle.ab_term.specs.Typing.{Signature, HasType}
use Rattle.ab_term.specs.Substitution.{lower_index, shift, put, substitute_by, substitute_all_by, reduce, substitute}
use Rattle.ab_term.proofs.Shifts.{shift-substitute_low, shift-reduce}
use Rattle.ab_unifiers.specs.Member.{before}
use Rattle.ab_formulas.specs.Marks as marks
use Rattle.ab_theory.specs.Opening as opening
use Rattle.ab_theory.specs.Opening.{Kind, compound, atomic, undetermined, kind_of, open_goal}
use Rattle.ab_search_trees.specs.Judgements.{judged, layer_of, opened_once}
use Rattle.ab_search_proofs.proofs.Connectives.{same_option}
use Rattle.ab_search_proofs.proofs.OpenedAlike.{arguments_of, first_of, rest_of, body_of}
use Rattle.ab_search_layers.specs.Layered.{OpensTo, it_stays, a_layer, in_both, in_nabla, in_exists}
use Rattle.ab_search_layers.proofs.Opens.{layer}

-- A GOAL IS FINE where `pi` is given an abstraction throughout, as it is in typed goals
abbrev pub IsFine : Read → Type 0
IsFine (spine (logical (plain.spec_universal A)) (term (lam B x G) no_terms)) = IsFine G
IsFine (spine (logical (plain.spec_universal A)) (term (spine h ts) no_terms)) = ⊥
IsFine (spine (logical plain.spec_implication) (term F (term G no_terms))) = IsFine G
IsFine (spine (logical plain.spec_conjunction) (term F (term G no_terms))) = IsFine F × IsFine G
IsFine G = Unit {0}

-- so are the goals of a formula's judgements
abbrev pub AreFine : Read → Type 0
AreFine (spine (logical plain.judgement) (term L (term G no_terms))) = IsFine G
AreFine (spine (logical plain.conjunction) (term F (term G no_terms))) = AreFine F × AreFine G
AreFine (spine (logical (plain.nabla A)) (term (lam B x F) no_terms)) = AreFine F
AreFine (spine (logical (plain.existential A)) (term (lam B x F) no_terms)) = AreFine F
AreFine F = Unit {0}

module _ (sg : Signature) where
  typed_fine : {E : List Ty} (G : Read) → HasType sg E G o → IsFine G
  typed_fine (spine (logical (plain.spec_universal A)) (term (lam B x G) no_terms)) d = typed_fine G (body_of sg (first_of sg (arguments_of sg (plain.spec_universal A) d)))
  typed_fine (spine (logical (plain.spec_universal A)) (term (spine h ts) no_terms)) d = let bad = first_of sg (arguments_of sg (plain.spec_universal A) d) in elim bad [ ]
  typed_fine (spine (logical plain.spec_implication) (term F (term G no_terms))) d = typed_fine G (first_of sg (rest_of sg (arguments_of sg plain.spec_implication d)))
  typed_fine (spine (logical plain.spec_conjunction) (term F (term G no_terms))) d =
      let ds = arguments_of sg plain.spec_conjunction d in
      (typed_fine F (first_of sg ds), typed_fine G (first_of sg (rest_of sg ds)))
  typed_fine G d = tt

  pub typed_are_fine : {E : List Ty} (F : Read) → HasType sg E F prop → AreFine F
  typed_are_fine (spine (logical plain.judgement) (term L (term G no_terms))) d = typed_fine G (first_of sg (rest_of sg (arguments_of sg plain.judgement d)))
  typed_are_fine (spine (logical plain.conjunction) (term F (term G no_terms))) d =
      let ds = arguments_of sg plain.conjunction d in
      (typed_are_fine F (first_of sg ds), typed_are_fine G (first_of sg (rest_of sg ds)))
  typed_are_fine (spine (logical (plain.nabla A)) (term (lam B x F) no_terms)) d = typed_are_fine F (body_of sg (first_of sg (arguments_of sg (plain.nabla A) d)))
  typed_are_fine (spine (logical (plain.existential A)) (term (lam B x F) no_terms)) d = typed_are_fine F (body_of sg (first_of sg (arguments_of sg (plain.existential A) d)))
  typed_are_fine F d = tt

-- what opens to fine goals has fine goals
layer_fine : (L G F : Read) → layer_of L G ≡ Some F → AreFine F → IsFine G
layer_fine L (spine (logical (plain.spec_universal A)) (term (lam B x G) no_terms)) F e f = subst AreFine (sym (same_option e)) f
layer_fine L (spine (logical plain.spec_implication) (term E (term G no_terms))) F e f = subst AreFine (sym (same_option e)) f
layer_fine L (spine (logical plain.spec_conjunction) (term E (term G no_terms))) F e f = subst AreFine (sym (same_option e)) f
layer_fine L _ F e f = absurd (cc)

opened_fine : (C F : Read) → opened_once C ≡ Some F → AreFine F → AreFine C
opened_fine (spine (logical plain.judgement) (term L (term G no_terms))) F e f = layer_fine L G F e f
opened_fine _ F e f = absurd (cc)

opens_fine : {F G : Read} → OpensTo F G → AreFine G → AreFine F
opens_fine it_stays f = f
opens_fine (a_layer {F = F} {G = G} e o) f = opened_fine F G e (opens_fine o f)
opens_fine (in_both a b) f = (opens_fine a f.0, opens_fine b f.1)
opens_fine (in_nabla o) f = opens_fine o f
opens_fine (in_exists o) f = opens_fine o f

-- THE FIRST AND THE SECOND MEET, in so many steps
pub data Meets : ℕ → Read → Read → Type 0 where
  it_is : {F : Read} → Meets zero F F
  both_meet : {m n : ℕ} {A B C E : Read} → Meets m A C → Meets n B E → Meets (suc (m + n)) (opening.both A B) (opening.both C E)
  under_nabla : {n : ℕ} {A B : Ty} {x : List ℕ} {F G : Read} → Meets n F G → Meets (suc n) (spine (logical (plain.nabla A)) (term (lam B x F) no_terms)) (spine (logical (plain.nabla A)) (term (lam B x G) no_terms))
  under_exists : {n : ℕ} {A B : Ty} {x : List ℕ} {F G : Read} → Meets n F G → Meets (suc n) (spine (logical (plain.existential A)) (term (lam B x F) no_terms)) (spine (logical (plain.existential A)) (term (lam B x G) no_terms))
  on_left : {n : ℕ} {L G Y : Read} → kind_of G ≡ compound → IsFine G → Meets n (open_goal marks.plain L G) Y → Meets (suc n) (judged L G) Y
  on_right : {n : ℕ} {L G X : Read} → kind_of G ≡ compound → IsFine G → Meets n X (open_goal marks.plain L G) → Meets (suc n) X (judged L G)

-- the formula, opened whole
abbrev full : Read → Read
full (spine (logical plain.judgement) (term L (term G no_terms))) = open_goal marks.plain L G
full (spine (logical plain.conjunction) (term F (term G no_terms))) = opening.both (full F) (full G)
full (spine (logical (plain.nabla A)) (term (lam B x F) no_terms)) = spine (logical (plain.nabla A)) (term (lam B x (full F)) no_terms)
full (spine (logical (plain.existential A)) (term (lam B x F) no_terms)) = spine (logical (plain.existential A)) (term (lam B x (full F)) no_terms)
full F = F

abbrev Meet : Read → Read → Type 0
Meet X Y = (n : ℕ) × Meets n X Y

judged_meets : (L G : Read) (k : Kind) → kind_of G ≡ k → IsFine G → Meet (open_goal marks.plain L G) (judged L G)
judged_meets L G compound e f = (1, on_right e f it_is)
judged_meets L (lam A x t) _ e f = (0, it_is)
judged_meets L (spine (constant c) ts) _ e f = (0, it_is)
judged_meets L (spine (nominal a) ts) _ e f = (0, it_is)
judged_meets L (spine (variable y) ts) _ e f = (0, it_is)
judged_meets L (spine (index i) ts) _ e f = (0, it_is)
judged_meets L (spine (logical l) ts) _ e f = absurd (cc)

full_meets : (X : Read) → AreFine X → Meet (full X) X
full_meets (spine (logical plain.judgement) (term L (term G no_terms))) f = judged_meets L G (kind_of G) refl f
full_meets (spine (logical plain.conjunction) (term F (term G no_terms))) f = let a = full_meets F f.0 in let b = full_meets G f.1 in (suc (a.0 + b.0), both_meet a.1 b.1)
full_meets (spine (logical (plain.nabla A)) (term (lam B x F) no_terms)) f = let a = full_meets F f in (suc a.0, under_nabla a.1)
full_meets (spine (logical (plain.existential A)) (term (lam B x F) no_terms)) f = let a = full_meets F f in (suc a.0, under_exists a.1)
full_meets X f = (0, it_is)

full_goal : (L G : Read) → full (open_goal marks.plain L G) ≡ open_goal marks.plain L G
full_goal L (spine (logical (plain.spec_universal A)) (term (lam B x G) no_terms)) = ap (λ t. spine (logical (plain.nabla A)) (term (lam A x t) no_terms)) (full_goal (shift zero L) G)
full_goal L (spine (logical plain.spec_implication) (term F (term G no_terms))) = full_goal (before F L) G
full_goal L (spine (logical plain.spec_conjunction) (term F (term G no_terms))) = ap (λ t. opening.both t (full (open_goal marks.plain L G))) (full_goal L F) ∙ ap (opening.both (open_goal marks.plain L F)) (full_goal L G)
full_goal L G = refl

full_layer_of : (L G F : Read) → layer_of L G ≡ Some F → open_goal marks.plain L G ≡ full F
full_layer_of L (spine (logical (plain.spec_universal A)) (term (lam B x G) no_terms)) F e = ap full (same_option e)
full_layer_of L (spine (logical plain.spec_implication) (term E (term G no_terms))) F e = ap full (same_option e)
full_layer_of L (spine (logical plain.spec_conjunction) (term E (term G no_terms))) F e = ap full (same_option e)
full_layer_of L _ F e = absurd (cc)

full_layer : (C F : Read) → opened_once C ≡ Some F → full C ≡ full F
full_layer (spine (logical plain.judgement) (term L (term G no_terms))) F e = full_layer_of L G F e
full_layer _ F e = absurd (cc)

full_opens : {X Y : Read} → OpensTo X Y → AreFine Y → Meet (full X) Y
full_opens (it_stays {F = X}) f = full_meets X f
full_opens (a_layer {F = X} {G = F} {H = Y} e o) f = subst (λ k. Meet k Y) (sym (full_layer X F e)) (full_opens o f)
full_opens (in_both a b) f = let k = full_opens a f.0 in let l = full_opens b f.1 in (suc (k.0 + l.0), both_meet k.1 l.1)
full_opens (in_nabla o) f = let k = full_opens o f in (suc k.0, under_nabla k.1)
full_opens (in_exists o) f = let k = full_opens o f in (suc k.0, under_exists k.1)

-- WHAT OPENS TO A FORMULA MEETS IT
pub meets : {X Y : Read} → OpensTo X Y → AreFine Y → Meet X Y
meets it_stays f = (0, it_is)
meets (a_layer {F = X} {G = F} {H = Y} e o) f =
    let l = layer X F e in
    let k = full_opens (a_layer {F = X} {G = F} {H = Y} e o) f in
    let fine : IsFine l.goal = subst AreFine l.is (opened_fine X F e (opens_fine o f)) in
    (suc k.0, subst (λ z. Meets (suc k.0) z Y) (sym l.is) (on_left l.kind fine (subst (λ z. Meets k.0 (full z) Y) l.is k.1)))
meets (in_both a b) f = let k = meets a f.0 in let l = meets b f.1 in (suc (k.0 + l.0), both_meet k.1 l.1)
meets (in_nabla o) f = let k = meets o f in (suc k.0, under_nabla k.1)
meets (in_exists o) f = let k = meets o f in (suc k.0, under_exists k.1)

-- A TERM IS PUT IN that begins with a constant or a variable under its binders: no goal becomes one that opens
abbrev pub BeginsFree : Read → Type 0
BeginsFree (lam A x t) = BeginsFree t
BeginsFree (spine (variable y) ts) = Unit {0}
BeginsFree (spine (nominal a) ts) = Unit {0}
BeginsFree (spine h ts) = ⊥

shifted_free : (k : ℕ) (t : Read) → BeginsFree t → BeginsFree (shift k t)
shifted_free k (lam A x t) b = shifted_free (suc k) t b
shifted_free k (spine (variable y) ts) b = tt
shifted_free k (spine (nominal a) ts) b = tt
shifted_free k (spine (constant c) ts) b = absurd b
shifted_free k (spine (logical l) ts) b = absurd b
shifted_free k (spine (index i) ts) b = absurd b

put_free : (apply : Read → Terms ℕ (List ℕ) → Read) (u : Read) (k : ℕ) (t : Read) → BeginsFree t → BeginsFree (substitute_by apply u k t)
put_free apply u k (lam A x t) b = put_free apply (shift zero u) (suc k) t b
put_free apply u k (spine (variable y) ts) b = tt
put_free apply u k (spine (nominal a) ts) b = tt
put_free apply u k (spine (constant c) ts) b = absurd b
put_free apply u k (spine (logical l) ts) b = absurd b
put_free apply u k (spine (index i) ts) b = absurd b

reduced_free : (A : Ty) (u : Read) (ts : Terms ℕ (List ℕ)) → BeginsFree u → BeginsFree (reduce A u ts)
reduced_free (kind k) u ts b = b
reduced_free (arrow A B) (lam C x t) (term v vs) b = reduced_free B (substitute_by (reduce A) v zero t) vs (put_free (reduce A) v zero t b)
reduced_free (arrow A B) (lam C x t) no_terms b = b
reduced_free (arrow A B) (spine h us) ts b = b

free_fine : (t : Read) → BeginsFree t → IsFine t
free_fine (lam A x t) b = tt
free_fine (spine (variable y) ts) b = tt
free_fine (spine (nominal a) ts) b = tt
free_fine (spine (constant c) ts) b = absurd b
free_fine (spine (logical l) ts) b = absurd b
free_fine (spine (index i) ts) b = absurd b

free_opened : (L t : Read) → BeginsFree t → open_goal marks.plain L t ≡ judged L t
free_opened L (lam A x t) b = refl
free_opened L (spine (variable y) ts) b = refl
free_opened L (spine (nominal a) ts) b = refl
free_opened L (spine (constant c) ts) b = absurd b
free_opened L (spine (logical l) ts) b = absurd b
free_opened L (spine (index i) ts) b = absurd b

-- what `pi` is given more than one of is as it is
more_fine : (C : Ty) (t v : Read) (ts : Terms ℕ (List ℕ)) → IsFine (spine (logical (plain.spec_universal C)) (term t (term v ts)))
more_fine C (lam B x t) v ts = tt
more_fine C (spine h us) v ts = tt

more_opened : (L : Read) (C : Ty) (t v : Read) (ts : Terms ℕ (List ℕ)) → judged L (spine (logical (plain.spec_universal C)) (term t (term v ts))) ≡ open_goal marks.plain L (spine (logical (plain.spec_universal C)) (term t (term v ts)))
more_opened L C (lam B x t) v ts = refl
more_opened L C (spine h us) v ts = refl

module _ (A : Ty) where
  abbrev T : Read → ℕ → Read → Read
  T u k t = substitute A u k t

  abbrev Ts : Read → ℕ → Terms ℕ (List ℕ) → Terms ℕ (List ℕ)
  Ts u k ts = substitute_all_by (reduce A) u k ts

  -- where the name may go
  lowered : (P : Read → Type 0) (u : Read) (ts : Terms ℕ (List ℕ)) → P (reduce A u ts) → ((i : ℕ) → P (spine (index i) ts)) → (j : Option ℕ) → P (put (reduce A) u (option_map index j) ts)
  lowered P u ts p q None = p
  lowered P u ts p q (Some i) = q i

  fine_put : (u : Read) → BeginsFree u → (k : ℕ) (G : Read) → IsFine G → IsFine (T u k G)
  fine_put u b k (spine (logical (plain.spec_universal C)) (term (lam B x G) no_terms)) f = fine_put (shift zero u) (shifted_free zero u b) (suc k) G f
  fine_put u b k (spine (logical (plain.spec_universal C)) (term (spine h ts) no_terms)) f = absurd f
  fine_put u b k (spine (logical (plain.spec_universal C)) (term t (term v ts))) f = more_fine C (T u k t) (T u k v) (Ts u k ts)
  fine_put u b k (spine (logical plain.spec_implication) (term F (term G no_terms))) f = fine_put u b k G f
  fine_put u b k (spine (logical plain.spec_conjunction) (term F (term G no_terms))) f = (fine_put u b k F f.0, fine_put u b k G f.1)
  fine_put u b k (spine (index i) ts) f = lowered IsFine u (Ts u k ts) (free_fine (reduce A u (Ts u k ts)) (reduced_free A u (Ts u k ts) b)) (λ j. tt) (lower_index k i)
  fine_put u b k G f = tt

  opened_put : (u : Read) → BeginsFree u → (k : ℕ) (L G : Read) → IsFine G → T u k (open_goal marks.plain L G) ≡ open_goal marks.plain (T u k L) (T u k G)
  opened_put u b k L (spine (logical (plain.spec_universal C)) (term (lam B x G) no_terms)) f =
      ap (λ t. spine (logical (plain.nabla C)) (term (lam C x t) no_terms))
      (opened_put (shift zero u) (shifted_free zero u b) (suc k) (shift zero L) G f ∙ ap (λ K. open_goal marks.plain K (T (shift zero u) (suc k) G)) (sym (shift-substitute_low L (reduce A) u zero k (shift-reduce A) (omega arith))))
  opened_put u b k L (spine (logical (plain.spec_universal C)) (term (spine h ts) no_terms)) f = absurd f
  opened_put u b k L (spine (logical (plain.spec_universal C)) (term (lam B x t) (term v ts))) f = refl
  opened_put u b k L (spine (logical (plain.spec_universal C)) (term (spine h us) (term v ts))) f = more_opened (T u k L) C (T u k (spine h us)) (T u k v) (Ts u k ts)
  opened_put u b k L (spine (logical plain.spec_implication) (term F (term G no_terms))) f = opened_put u b k (before F L) G f
  opened_put u b k L (spine (logical plain.spec_conjunction) (term F (term G no_terms))) f =
      ap (λ t. opening.both t (T u k (open_goal marks.plain L G))) (opened_put u b k L F f.0) ∙ ap (opening.both (open_goal marks.plain (T u k L) (T u k F))) (opened_put u b k L G f.1)
  opened_put u b k L (spine (index i) ts) f =
      lowered (λ t. judged (T u k L) t ≡ open_goal marks.plain (T u k L) t) u (Ts u k ts) (sym (free_opened (T u k L) (reduce A u (Ts u k ts)) (reduced_free A u (Ts u k ts) b))) (λ j. refl) (lower_index k i)
  opened_put u b k L G f = refl

  compound_put : (u : Read) (k : ℕ) (G : Read) → kind_of G ≡ compound → kind_of (T u k G) ≡ compound
  compound_put u k (spine (logical l) ts) e = refl
  compound_put u k (lam B x t) e = absurd (cc)
  compound_put u k (spine (constant c) ts) e = absurd (cc)
  compound_put u k (spine (nominal a) ts) e = absurd (cc)
  compound_put u k (spine (variable y) ts) e = absurd (cc)
  compound_put u k (spine (index i) ts) e = absurd (cc)

  pub meets_put : (u : Read) → BeginsFree u → (k : ℕ) {n : ℕ} {X Y : Read} → Meets n X Y → Meets n (T u k X) (T u k Y)
  meets_put u b k it_is = it_is
  meets_put u b k (both_meet m n) = both_meet (meets_put u b k m) (meets_put u b k n)
  meets_put u b k (under_nabla m) = under_nabla (meets_put (shift zero u) (shifted_free zero u b) (suc k) m)
  meets_put u b k (under_exists m) = under_exists (meets_put (shift zero u) (shifted_free zero u b) (suc k) m)
  meets_put u b k (on_left {n = n} {L = L} {G = G} {Y = Y} e f m) = on_left (compound_put u k G e) (fine_put u b k G f) (subst (λ z. Meets n z (T u k Y)) (opened_put u b k L G f) (meets_put u b k m))
  meets_put u b k (on_right {n = n} {L = L} {G = G} {X = X} e f m) = on_right (compound_put u k G e) (fine_put u b k G f) (subst (λ z. Meets n (T u k X) z) (opened_put u b k L G f) (meets_put u b k m))
