-- A goal with hypotheses of a command's own, and the goal without them.
use Rattle.std.specs.Prelude.{All}
use Rattle.std.specs.Option.{IsSome}
use Rattle.std.proofs.Common.{◌≡◌, ◌≢◌, inl, inr, ℕ, ◌<◌, List, [], ◌∷◌, ◌++◌, Bool, true, false, Option, refl, sym, ◌∙◌, ap, subst, decimal}
use Rattle.ab_term.specs.Terms.{Read}
use Rattle.ab_formulas.specs.Declarations.{Declarations}
use Rattle.ab_formulas.specs.Sequents.{Hypothesis, Variable, Sequent, named, others, formula_of, assuming, without, counted, over}
use Rattle.ab_formulas.specs.NewNames.{Label, auto, given, automatic, IsFree, Names, NoName, IsFreeName, IsNamedFor}
use Rattle.ab_hypothesis.specs.OwnNames.{AreOwn, HasAll, besides}
use Rattle.ab_hypothesis.specs.HypothesisProgress.{label_left}
use Rattle.ab_hypothesis.proofs.Hypotheses.{named_besides, named_past, others_past, turned}

-- no hypothesis of the list has the name
abbrev pub NoneIs : List Hypothesis → List ℕ → Type 0
NoneIs [] y = Unit {0}
NoneIs (h ∷ hs) y = (h.name ≢ y) × NoneIs hs y

abbrev pub dressed : List Hypothesis → Sequent → Sequent
dressed hs k = record { variables = k.variables; hypotheses = hs; conclusion = k.conclusion; counter = k.counter }

abbrev pub left_of : List Hypothesis → List Hypothesis → List Hypothesis
left_of [] ks = ks
left_of (h ∷ hs) ks = left_of hs (others ks h.name)

-- hypotheses alone are gone
pub besides_is : (hs : List Hypothesis) (k : Sequent) → besides hs k ≡ dressed (left_of hs k.hypotheses) k
besides_is [] k = refl
besides_is (h ∷ hs) k = besides_is hs (without h.name k)

pub named_beside : (hs : List Hypothesis) (k : Sequent) (y : List ℕ) → NoneIs hs y → formula_of (besides hs k) y ≡ formula_of k y
named_beside [] k y apart = refl
named_beside (h ∷ hs) k y apart = named_beside hs (without h.name k) y apart.1 ∙ named_besides k.hypotheses h.name y apart.0

pub no_automatic : (l : Label) (hs : List Hypothesis) (n : ℕ) → AreOwn l hs → NoneIs hs (automatic n)
no_automatic l [] n own = tt
no_automatic l (h ∷ hs) n own = (own.0.no_automatic n, no_automatic l hs n own.1)

pub no_label : (x : List ℕ) (hs : List Hypothesis) → AreOwn (given x) hs → NoneIs hs x
no_label x [] own = tt
no_label x (h ∷ hs) own = (λ e. own.0.no_label (ap given (sym e)), no_label x hs own.1)

-- once the label is spent
pub own_auto : (l : Label) (hs : List Hypothesis) → AreOwn l hs → AreOwn auto hs
own_auto l [] own = tt
own_auto l (h ∷ hs) own =
    (record { no_automatic = own.0.no_automatic; no_label = λ e. let clash : auto ≡ given h.name = e in cc }, own_auto l hs own.1)

pub own_left : (l : Label) (b : Bool) (hs : List Hypothesis) → AreOwn l hs → AreOwn (label_left l b) hs
own_left l true hs own = own
own_left l false hs own = own_auto l hs own

-- names

pub besides_counted : (hs : List Hypothesis) (n : ℕ) (k : Sequent) → besides hs (counted n k) ≡ counted n (besides hs k)
besides_counted [] n k = refl
besides_counted (h ∷ hs) n k = besides_counted hs n (without h.name k)

counter_beside : (hs : List Hypothesis) (k : Sequent) → (besides hs k).counter ≡ k.counter
counter_beside hs k = ap (λ (s : Sequent). s.counter) (besides_is hs k)

free_beside : (l : Label) (hs : List Hypothesis) (k : Sequent) (n : ℕ) → AreOwn l hs → IsFree k n → IsFree (besides hs k) n
free_beside l hs k n own f = record {
  above = subst (λ c. c < n) (sym (counter_beside hs k)) f.above;
  within = f.within;
  unused = λ u. f.unused (subst (λ (o : Option Read). IsSome o) (named_beside hs k (automatic n) (no_automatic l hs n own)) u);
}

free_with : (l : Label) (hs : List Hypothesis) (k : Sequent) (n : ℕ) → AreOwn l hs → IsFree (besides hs k) n → IsFree k n
free_with l hs k n own f = record {
  above = subst (λ c. c < n) (counter_beside hs k) f.above;
  within = f.within;
  unused = λ u. f.unused (subst (λ (o : Option Read). IsSome o) (sym (named_beside hs k (automatic n) (no_automatic l hs n own))) u);
}

pub names_beside : (l : Label) (hs : List Hypothesis) (k : Sequent) (L : List ℕ) (t : Sequent) → AreOwn l hs → Names l k L t → Names l (besides hs k) L (besides hs t)
names_beside auto hs k L t own n = (
  n.0,
  record { has = free_beside auto hs k n.0 own n.1.has; first = λ m l f. n.1.first m l (free_with auto hs k m own f) },
  n.2,
  ap (besides hs) n.3 ∙ besides_counted hs n.0 k,
)
names_beside (given x) hs k L t own n =
    (λ u. n.0 (subst (λ (o : Option Read). IsSome o) (named_beside hs k x (no_label x hs own)) u), n.1, ap (besides hs) n.2)

pub nameless_beside : (l : Label) (hs : List Hypothesis) (k : Sequent) → AreOwn l hs → NoName l k → NoName l (besides hs k)
nameless_beside auto hs k own none = λ n f. none n (free_with auto hs k n own f)
nameless_beside (given x) hs k own used = subst (λ (o : Option Read). IsSome o) (sym (named_beside hs k x (no_label x hs own))) used

pub label_apart : (l : Label) (hs : List Hypothesis) (k : Sequent) (L : List ℕ) (t : Sequent) → AreOwn l hs → Names l k L t → NoneIs hs L
label_apart auto hs k L t own n = subst (NoneIs hs) (sym n.2) (no_automatic auto hs n.0 own)
label_apart (given x) hs k L t own n = subst (NoneIs hs) (sym n.1) (no_label x hs own)

pub named_hypotheses : (l : Label) (k : Sequent) (L : List ℕ) (t : Sequent) → Names l k L t → t.hypotheses ≡ k.hypotheses
named_hypotheses auto k L t n = ap (λ (s : Sequent). s.hypotheses) n.3
named_hypotheses (given x) k L t n = ap (λ (s : Sequent). s.hypotheses) n.2

-- one hypothesis more, one variable more

pub without_past : (k : Sequent) (x L : List ℕ) (F : Read) → L ≢ x → without x (assuming L F k) ≡ assuming L F (without x k)
without_past k x L F apart = ap (λ hs. dressed hs k) (others_past k.hypotheses x L F apart)

pub besides_assuming : (hs : List Hypothesis) (L : List ℕ) (F : Read) (k : Sequent) → NoneIs hs L → besides hs (assuming L F k) ≡ assuming L F (besides hs k)
besides_assuming [] L F k apart = refl
besides_assuming (h ∷ hs) L F k apart =
    ap (besides hs) (without_past k h.name L F (turned apart.0)) ∙ besides_assuming hs L F (without h.name k) apart.1

pub besides_over : (hs : List Hypothesis) (x : Variable) (k : Sequent) → besides hs (over x k) ≡ over x (besides hs k)
besides_over [] x k = refl
besides_over (h ∷ hs) x k = besides_over hs x (without h.name k)

pub has_all_same : (hs : List Hypothesis) (k t : Sequent) → t.hypotheses ≡ k.hypotheses → HasAll hs k → HasAll hs t
has_all_same [] k t e all = tt
has_all_same (h ∷ hs) k t e all =
    (ap (λ xs. named xs h.name) e ∙ all.0, has_all_same hs (without h.name k) (without h.name t) (ap (λ xs. others xs h.name) e) all.1)

pub has_all_more : (hs : List Hypothesis) (L : List ℕ) (F : Read) (k : Sequent) → NoneIs hs L → HasAll hs k → HasAll hs (assuming L F k)
has_all_more [] L F k apart all = tt
has_all_more (h ∷ hs) L F k apart all = (
  named_past k.hypotheses L h.name F (turned apart.0) ∙ all.0,
  has_all_same hs (assuming L F (without h.name k)) (without h.name (assuming L F k)) (others_past k.hypotheses h.name L F (turned apart.0))
      (has_all_more hs L F (without h.name k) apart.1 all.1),
)

-- names of variables ask for variables alone

free_name : (D : Declarations) (s t : Sequent) (x : List ℕ) → s.variables ≡ t.variables → IsFreeName D s x → IsFreeName D t x
free_name D s t x e f = record {
  no_variable = subst (λ (ys : List Variable). All (λ (y : Variable). y.name ≢ x) ys) e f.no_variable;
  no_constant = f.no_constant;
  no_nominal = f.no_nominal;
}

pub same_naming : (D : Declarations) (s t : Sequent) (hint name : List ℕ) → s.variables ≡ t.variables → IsNamedFor D s hint name → IsNamedFor D t hint name
same_naming D s t hint name e (inl n) = inl (free_name D s t hint e n.0, n.1)
same_naming D s t hint name e (inr n) = inr (
  λ f. n.0 (free_name D t s hint (sym e) f),
  (
    n.1.0,
    n.1.1,
    n.1.2,
    record {
      has = (n.1.3.has.0, free_name D s t (n.1.0 ++ decimal n.1.1) e n.1.3.has.1);
      first = λ m l f. n.1.3.first m l (f.0, free_name D t s (n.1.0 ++ decimal m) (sym e) f.1);
    },
    n.1.4,
  ),
)
