-- Rows whose answer is settled: what comes of each thing that is asked is one thing, or it is refused for one cause.
use Rattle.std.proofs.Common.{◌≡◌, inl, inr, List, Some, None, sym, ◌∙◌, subst}
use Rattle.ab_formulas.specs.Sequents.{Sequent}
use Rattle.ab_meaning.specs.Refusals.{Refusal}
use Rattle.ab_effects.specs.Row.{Row, leads, unless, finds, makes, Leads, Refuses}

abbrev pub Settled : Row → Type 0
Settled (leads ps) = Unit {0}
Settled (unless o k) = Settled k
Settled (finds {A = A} r o k) = (a : A) → Settled (k a)
Settled (makes {A = A} P N k) =
    ((a : A) (f : Refusal) → P a → N f → ⊥) × ((f g : Refusal) → N f → N g → f ≡ g) × ((a b : A) → P a → P b → a ≡ b) × ((a : A) → Settled (k a))

pub never_both : (r : Row) → Settled r → (ps : List Sequent) (f : Refusal) → Leads r ps → Refuses r f → ⊥
never_both (leads qs) s ps f led refused = refused
never_both (unless o k) s ps f led (inl r) = let clash : None ≡ Some f = sym led.0 ∙ r in cc
never_both (unless o k) s ps f led (inr r) = never_both k s ps f led.1 r.1
never_both (finds c o k) s ps f led (inl r) = let clash : None ≡ Some led.0 = sym r.0 ∙ led.1 in cc
never_both (finds c o k) s ps f led (inr r) =
    let both : Some r.0 ≡ Some led.0 = sym r.1 ∙ led.1 in
    let same : r.0 ≡ led.0 = cc in
    never_both (k led.0) (s led.0) ps f led.2 (subst (λ a. Refuses (k a) f) same r.2)
never_both (makes P N k) s ps f led (inl r) = s.0 led.0 f led.1 r
never_both (makes P N k) s ps f led (inr r) =
    never_both (k led.0) (s.3 led.0) ps f led.2 (subst (λ a. Refuses (k a) f) (s.2 r.0 led.0 r.1 led.1) r.2)

pub one_refusal : (r : Row) → Settled r → (f g : Refusal) → Refuses r f → Refuses r g → f ≡ g
one_refusal (leads qs) s f g a b = absurd a
one_refusal (unless o k) s f g (inl a) (inl b) = let both : Some f ≡ Some g = sym a ∙ b in cc
one_refusal (unless o k) s f g (inl a) (inr b) = let clash : None ≡ Some f = sym b.0 ∙ a in cc
one_refusal (unless o k) s f g (inr a) (inl b) = let clash : None ≡ Some g = sym a.0 ∙ b in cc
one_refusal (unless o k) s f g (inr a) (inr b) = one_refusal k s f g a.1 b.1
one_refusal (finds c o k) s f g (inl a) (inl b) = a.1 ∙ sym b.1
one_refusal (finds c o k) s f g (inl a) (inr b) = let clash : None ≡ Some b.0 = sym a.0 ∙ b.1 in cc
one_refusal (finds c o k) s f g (inr a) (inl b) = let clash : None ≡ Some a.0 = sym b.0 ∙ a.1 in cc
one_refusal (finds c o k) s f g (inr a) (inr b) =
    let both : Some a.0 ≡ Some b.0 = sym a.1 ∙ b.1 in
    let same : a.0 ≡ b.0 = cc in
    one_refusal (k b.0) (s b.0) f g (subst (λ x. Refuses (k x) f) same a.2) b.2
one_refusal (makes P N k) s f g (inl a) (inl b) = s.1 f g a b
one_refusal (makes P N k) s f g (inl a) (inr b) = absurd (s.0 b.0 f b.1 a)
one_refusal (makes P N k) s f g (inr a) (inl b) = absurd (s.0 a.0 g a.1 b)
one_refusal (makes P N k) s f g (inr a) (inr b) =
    one_refusal (k b.0) (s.3 b.0) f g (subst (λ x. Refuses (k x) f) (s.2 a.0 b.0 a.1 b.1) a.2) b.2

pub one_list : (r : Row) → Settled r → (ps qs : List Sequent) → Leads r ps → Leads r qs → ps ≡ qs
one_list (leads rs) s ps qs a b = a ∙ sym b
one_list (unless o k) s ps qs a b = one_list k s ps qs a.1 b.1
one_list (finds c o k) s ps qs a b =
    let both : Some a.0 ≡ Some b.0 = sym a.1 ∙ b.1 in
    let same : a.0 ≡ b.0 = cc in
    one_list (k b.0) (s b.0) ps qs (subst (λ x. Leads (k x) ps) same a.2) b.2
one_list (makes P N k) s ps qs a b =
    one_list (k b.0) (s.3 b.0) ps qs (subst (λ x. Leads (k x) ps) (s.2 a.0 b.0 a.1 b.1) a.2) b.2
