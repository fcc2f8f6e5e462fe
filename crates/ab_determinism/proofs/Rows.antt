-- Rows that lead or refuse alike, part by part.
use Rattle.std.proofs.Common.{◌≡◌, inl, inr, List, [], ◌∷◌, map, Option, Some, None, option_map, refl, sym, ◌∙◌, ap, subst}
use Rattle.ab_formulas.specs.Sequents.{Sequent}
use Rattle.ab_formulas.specs.NamedGoals.{named}
use Rattle.ab_effects.specs.ProofCommands.{marked_so}
use Rattle.ab_meaning.specs.Refusals.{Refusal, mark}
use Rattle.ab_effects.specs.Row.{Row, leads, unless, finds, makes, Leads, Refuses}

-- the rows lead or refuse alike, for one cause, and their goals are one list with names for numbers
pub record AreOnce (r q : Row) : Type 0 where
  pub apart : (ps : List Sequent) (f : Refusal) → Leads r ps → Refuses q f → ⊥
  pub refusal : (f g : Refusal) → Refuses r f → Refuses q g → f ≡ g
  pub goals : (ps qs : List Sequent) → Leads r ps → Leads q qs → map named ps ≡ map named qs

pub once_leads : (ps qs : List Sequent) → map named ps ≡ map named qs → AreOnce (leads ps) (leads qs)
once_leads ps qs same = record {
  apart = λ rs f led refused. refused;
  refusal = λ f g a b. absurd a;
  goals = λ rs ts a b. ap (map named) a ∙ same ∙ sym (ap (map named) b);
}

-- where there is no cause, which is then known
pub once_unless_then : (o p : Option Refusal) (k j : Row) → o ≡ p → (o ≡ None → AreOnce k j) → AreOnce (unless o k) (unless p j)
once_unless_then o p k j same once = record {
  apart = λ ps f led refused. elim refused [ inl r ↦ (let clash : None ≡ Some f = sym led.0 ∙ same ∙ r in cc) | inr r ↦ (once led.0).apart ps f led.1 r.1 ];
  refusal = refusal;
  goals = λ ps qs a b. (once a.0).goals ps qs a.1 b.1;
}
  where
    refusal : (f g : Refusal) → Refuses (unless o k) f → Refuses (unless p j) g → f ≡ g
    refusal f g (inl a) (inl b) = let both : Some f ≡ Some g = sym a ∙ same ∙ b in cc
    refusal f g (inl a) (inr b) = let clash : None ≡ Some f = sym b.0 ∙ sym same ∙ a in absurd (cc)
    refusal f g (inr a) (inl b) = let clash : None ≡ Some g = sym a.0 ∙ same ∙ b in absurd (cc)
    refusal f g (inr a) (inr b) = (once a.0).refusal f g a.1 b.1

pub once_unless : (o p : Option Refusal) (k j : Row) → o ≡ p → AreOnce k j → AreOnce (unless o k) (unless p j)
once_unless o p k j same once = once_unless_then o p k j same (λ e. once)

pub once_finds : {A B : Type 0} (c : Refusal) (o : Option A) (p : Option B) (h : A → B) → p ≡ option_map h o → (k : A → Row) (j : B → Row) → ((a : A) → o ≡ Some a → AreOnce (k a) (j (h a))) → AreOnce (finds c o k) (finds c p j)
once_finds {A = A} {B = B} c o p h same k j once = record { apart = apart; refusal = refusal; goals = goals }
  where
    there : (a : A) → o ≡ Some a → p ≡ Some (h a)
    there a e = same ∙ ap (option_map h) e

    found : (a : A) (b : B) → o ≡ Some a → p ≡ Some b → b ≡ h a
    found a b e d = let both : Some b ≡ Some (h a) = sym d ∙ there a e in cc

    apart : (ps : List Sequent) (f : Refusal) → Leads (finds c o k) ps → Refuses (finds c p j) f → ⊥
    apart ps f led (inl r) = let clash : None ≡ Some (h led.0) = sym r.0 ∙ there led.0 led.1 in cc
    apart ps f led (inr r) = (once led.0 led.1).apart ps f led.2 (subst (λ b. Refuses (j b) f) (found led.0 r.0 led.1 r.1) r.2)

    refusal : (f g : Refusal) → Refuses (finds c o k) f → Refuses (finds c p j) g → f ≡ g
    refusal f g (inl a) (inl b) = a.1 ∙ sym b.1
    refusal f g (inl a) (inr b) = let clash : None ≡ Some b.0 = sym (same ∙ ap (option_map h) a.0) ∙ b.1 in absurd (cc)
    refusal f g (inr a) (inl b) = let clash : None ≡ Some (h a.0) = sym b.0 ∙ there a.0 a.1 in absurd (cc)
    refusal f g (inr a) (inr b) = (once a.0 a.1).refusal f g a.2 (subst (λ x. Refuses (j x) g) (found a.0 b.0 a.1 b.1) b.2)

    goals : (ps qs : List Sequent) → Leads (finds c o k) ps → Leads (finds c p j) qs → map named ps ≡ map named qs
    goals ps qs a b = (once a.0 a.1).goals ps qs a.2 (subst (λ x. Leads (j x) qs) (found a.0 b.0 a.1 b.1) b.2)

pub once_makes : {A B : Type 0} (P : A → Type 0) (N : Refusal → Type 0) (Q : B → Type 0) (M : Refusal → Type 0) (k : A → Row) (j : B → Row)
    → ((a : A) (g : Refusal) → P a → M g → ⊥) → ((f : Refusal) (b : B) → N f → Q b → ⊥) → ((f g : Refusal) → N f → M g → f ≡ g) → ((a : A) (b : B) → P a → Q b → AreOnce (k a) (j b))
    → AreOnce (makes P N k) (makes Q M j)
once_makes P N Q M k j or_not not_or cause once = record { apart = apart; refusal = refusal; goals = goals }
  where
    apart : (ps : List Sequent) (f : Refusal) → Leads (makes P N k) ps → Refuses (makes Q M j) f → ⊥
    apart ps f (a, m, led) (inl n) = or_not a f m n
    apart ps f (a, m, led) (inr (b, n, refused)) = (once a b m n).apart ps f led refused

    refusal : (f g : Refusal) → Refuses (makes P N k) f → Refuses (makes Q M j) g → f ≡ g
    refusal f g (inl m) (inl n) = cause f g m n
    refusal f g (inl m) (inr (b, n, r)) = absurd (not_or f b m n)
    refusal f g (inr (a, m, r)) (inl n) = absurd (or_not a g m n)
    refusal f g (inr (a, m, r)) (inr (b, n, q)) = (once a b m n).refusal f g r q

    goals : (ps qs : List Sequent) → Leads (makes P N k) ps → Leads (makes Q M j) qs → map named ps ≡ map named qs
    goals ps qs (a, m, led) (b, n, to) = (once a b m n).goals ps qs led to

-- no answer depends on the goal
pub once_alone : (o : Option Refusal) → AreOnce (unless o (leads [])) (unless o (leads []))
once_alone o = once_unless o o (leads []) (leads []) refl (once_leads [] [] refl)

-- a mark is to be as is asked of both
pub once_marked : (P : Type 0) (k j : Row) → AreOnce k j → AreOnce (marked_so P k) (marked_so P j)
once_marked P k j once =
    once_makes {A = Unit {0}} {B = Unit {0}} (λ u. P) (λ f. (¬ P) × (f ≡ mark)) (λ u. P) (λ f. (¬ P) × (f ≡ mark)) (λ u. k) (λ u. j)
    (λ u g p n. n.0 p) (λ g u n p. n.0 p) (λ f g m n. m.1 ∙ sym n.1) (λ u v p q. once)

pub one_same : (x y : Sequent) → named x ≡ named y → map named (x ∷ []) ≡ map named (y ∷ [])
one_same x y e = ap (λ a. a ∷ []) e

pub two_same : (x y z w : Sequent) → named x ≡ named y → named z ≡ named w → map named (x ∷ z ∷ []) ≡ map named (y ∷ w ∷ [])
two_same x y z w e f = ap (λ a. a ∷ named z ∷ []) e ∙ ap (λ b. named y ∷ b ∷ []) f
