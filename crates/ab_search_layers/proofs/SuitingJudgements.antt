-- A HYPOTHESIS THAT SUITS A JUDGEMENT is one, with a mark that serves; and what it opens to suits what that opens to.
use Rattle.std.proofs.Common.{◌≡◌, ℕ, zero, suc, ◌+◌, List, [], codes, sym, ◌∙◌, ap, subst}
use Rattle.ab_term.specs.Types.{prop}
use Rattle.ab_term.specs.Logical as plain
use Rattle.ab_term.specs.Logical.{Logical}
use Rattle.ab_term.specs.Terms.{constant, logical, nominal, variable, index, lam, spine, Terms, no_terms, term, Read}
use Rattle.ab_term.specs.Translation.{forget}
use Rattle.ab_term.specs.Typing.{Signature, HasType}
use Rattle.ab_term.specs.Substitution.{shift}
use Rattle.ab_term.proofs.Translations.{translate-shift}
use Rattle.ab_unifiers.specs.Member.{before}
use Rattle.ab_formulas.specs.BodyMarks.{MayBeAnalysed, mark_below, with_mark}
use Rattle.ab_formulas.specs.Marks as marks
use Rattle.ab_formulas.specs.Marks.{Sign, star_of, at_of, plus_of, hash_of, Serves, MarksServeIn, erased}
use Rattle.ab_theory.specs.Judgements.{marked_judgement}
use Rattle.ab_theory.specs.Opening.{both, open_goal}
use Rattle.ab_search_trees.specs.Judgements.{judged}
use Rattle.ab_search_trees.proofs.Forms.{begins_logical, one_more, no_more, abstraction}
use Rattle.ab_search_proofs.proofs.OpenedAlike.{IsSingle, single_opened, arguments_of, rest_of}
use Rattle.ab_search_layers.proofs.Suiting.{IsLeaf, Suits, at_leaf, both_suit, suits_under}

-- IT IS A JUDGEMENT
pub record IsMarked (B L G : Read) : Type 0 where
  pub sign : Sign
  pub context : Read
  pub goal : Read
  pub is : B ≡ marked_judgement sign context goal
  pub same_context : forget context ≡ forget L
  pub same_goal : forget goal ≡ forget G
  pub serves : Serves marks.plain sign

module _ (L G : Read) where
  with_sign : (m : Sign) (t : Read) → forget t ≡ forget (judged L G) → MarksServeIn (judged L G) (with_mark m t) → IsMarked (with_mark m t) L G
  with_sign m t e s =
      let b = begins_logical plain.judgement (term (forget L) (term (forget G) no_terms)) t (sym e) in
      let one = one_more b.0 b.2 in
      let two = one_more one.1 one.4 in
      let whole : t ≡ judged one.0 two.0 = b.1 ∙ ap (spine (logical plain.judgement)) (one.2 ∙ ap (term one.0) (two.2 ∙ ap (term two.0) (no_more two.4))) in
      record { sign = m; context = one.0; goal = two.0; is = ap (with_mark m) whole; same_context = sym one.3; same_goal = sym two.3; serves = at m b.0 (subst (λ k. MarksServeIn (judged L G) (with_mark m k)) b.1 s) }
    where
      at : (m : Sign) (us : Terms ℕ (List ℕ)) → MarksServeIn (judged L G) (with_mark m (spine (logical plain.judgement) us)) → Serves marks.plain m
      at marks.plain us s = tt
      at (star_of i) us s = s
      at (at_of i) us s = s
      at (plus_of i) us s = s
      at (hash_of i) us s = s

  module _ (sg : Signature) where
    logical_marked : (l : Logical) (ts : Terms ℕ (List ℕ)) → HasType sg [] (spine (logical l) ts) prop → forget (erased (spine (logical l) ts)) ≡ forget (judged L G) → MarksServeIn (judged L G) (spine (logical l) ts) → IsMarked (spine (logical l) ts) L G
    logical_marked plain.judgement ts d e s = with_sign marks.plain (spine (logical plain.judgement) ts) e s
    logical_marked (plain.star i) (term t no_terms) d e s = with_sign (star_of i) t e s
    logical_marked (plain.star i) (term t (term v ts)) d e s = let bad = rest_of sg (arguments_of sg (plain.star i) d) in elim bad [ ]
    logical_marked (plain.at_sign i) (term t no_terms) d e s = with_sign (at_of i) t e s
    logical_marked (plain.at_sign i) (term t (term v ts)) d e s = let bad = rest_of sg (arguments_of sg (plain.at_sign i) d) in elim bad [ ]
    logical_marked (plain.plus i) (term t no_terms) d e s = with_sign (plus_of i) t e s
    logical_marked (plain.plus i) (term t (term v ts)) d e s = let bad = rest_of sg (arguments_of sg (plain.plus i) d) in elim bad [ ]
    logical_marked (plain.hash i) (term t no_terms) d e s = with_sign (hash_of i) t e s
    logical_marked (plain.hash i) (term t (term v ts)) d e s = let bad = rest_of sg (arguments_of sg (plain.hash i) d) in elim bad [ ]
    logical_marked _ ts d e s = absurd (cc)

    pub is_marked : (B : Read) → HasType sg [] B prop → IsLeaf B (judged L G) → IsMarked B L G
    is_marked (lam A x t) d l = absurd l.stands
    is_marked (spine (variable y) ts) d l = absurd (l.stands).0
    is_marked (spine (index j) ts) d l = absurd (l.stands).0
    is_marked (spine (constant c) ts) d l = absurd (let e = l.same in cc)
    is_marked (spine (nominal a) ts) d l = absurd (let e = l.same in cc)
    is_marked (spine (logical k) ts) d l = logical_marked k ts d l.same l.serve

-- such a judgement may be analysed, and the marks of what it opens to serve
pub analysed : (m : Sign) → Serves marks.plain m → MayBeAnalysed m × Serves marks.plain (mark_below m)
analysed marks.plain s = (tt, tt)
analysed (star_of i) s = (tt, tt)
analysed (at_of i) s = (tt, tt)
analysed (plus_of i) s = absurd s
analysed (hash_of i) s = absurd s

-- WHAT IT OPENS TO
single_same : (G H : Read) → forget G ≡ forget H → IsSingle G → IsSingle H
single_same G (spine (logical (plain.spec_universal A)) (term (lam B x h) no_terms)) e i =
    let b = begins_logical (plain.spec_universal A) (term (forget (lam B x h)) no_terms) G (sym e) in
    let one = one_more b.0 b.2 in
    let scope = abstraction one.0 one.3 in
    subst IsSingle (b.1 ∙ ap (spine (logical (plain.spec_universal A))) (one.2 ∙ ap (term one.0) (no_more one.4) ∙ ap (λ t. term t no_terms) scope.2)) i
single_same G (spine (logical plain.spec_implication) (term F (term h no_terms))) e i =
    let b = begins_logical plain.spec_implication (term (forget F) (term (forget h) no_terms)) G (sym e) in
    let one = one_more b.0 b.2 in
    let two = one_more one.1 one.4 in
    subst IsSingle (b.1 ∙ ap (spine (logical plain.spec_implication)) (one.2 ∙ ap (term one.0) (two.2 ∙ ap (term two.0) (no_more two.4)))) i
single_same G (spine (logical plain.spec_conjunction) (term F (term h no_terms))) e i =
    let b = begins_logical plain.spec_conjunction (term (forget F) (term (forget h) no_terms)) G (sym e) in
    let one = one_more b.0 b.2 in
    let two = one_more one.1 one.4 in
    subst IsSingle (b.1 ∙ ap (spine (logical plain.spec_conjunction)) (one.2 ∙ ap (term one.0) (two.2 ∙ ap (term two.0) (no_more two.4)))) i
single_same G H e i = tt

same_judged : (L G M H : Read) → forget L ≡ forget M → forget G ≡ forget H → forget (judged L G) ≡ forget (judged M H)
same_judged L G M H d e = ap (λ k. spine (logical plain.judgement) (term k (term (forget G) no_terms))) d ∙ ap (λ k. spine (logical plain.judgement) (term (forget M) (term k no_terms))) e

judged_leaf : (m : Sign) → Serves marks.plain m → (L G M H : Read) → forget L ≡ forget M → forget G ≡ forget H → IsLeaf (marked_judgement m L G) (judged M H)
judged_leaf marks.plain s L G M H d e = record { stands = (tt, (tt, (tt, tt))); stands_there = (tt, (tt, (tt, tt))); same = same_judged L G M H d e; serve = tt }
judged_leaf (star_of i) s L G M H d e = record { stands = (tt, (tt, tt)); stands_there = (tt, (tt, (tt, tt))); same = same_judged L G M H d e; serve = tt }
judged_leaf (at_of i) s L G M H d e = record { stands = (tt, (tt, tt)); stands_there = (tt, (tt, (tt, tt))); same = same_judged L G M H d e; serve = tt }
judged_leaf (plus_of i) s L G M H d e = absurd s
judged_leaf (hash_of i) s L G M H d e = absurd s

abbrev Suit : Read → Read → Type 0
Suit B X = (n : ℕ) × Suits n B X

module _ (m : Sign) (s : Serves marks.plain m) where
  pub goal_suits : (L M G H : Read) → forget L ≡ forget M → forget G ≡ forget H → Suit (open_goal m L G) (open_goal marks.plain M H)
  goal_suits L M (spine (logical (plain.spec_universal A)) (term (lam B x g) no_terms)) H d e =
      let b = begins_logical (plain.spec_universal A) (term (forget (lam B x g)) no_terms) H e in
      let one = one_more b.0 b.2 in
      let scope = abstraction one.0 one.3 in
      let whole : H ≡ spine (logical (plain.spec_universal A)) (term (lam B scope.0 scope.1) no_terms) = b.1 ∙ ap (spine (logical (plain.spec_universal A))) (one.2 ∙ ap (term one.0) (no_more one.4) ∙ ap (λ t. term t no_terms) scope.2) in
      let shifted = translate-shift (λ k. k) (λ k. tt) L zero ∙ ap (shift zero) d ∙ sym (translate-shift (λ k. k) (λ k. tt) M zero) in
      let r = goal_suits (shift zero L) (shift zero M) g scope.1 shifted scope.3 in
      subst (λ K. Suit (open_goal m L (spine (logical (plain.spec_universal A)) (term (lam B x g) no_terms))) (open_goal marks.plain M K)) (sym whole) (suc r.0, suits_under r.1)
  goal_suits L M (spine (logical plain.spec_implication) (term F (term g no_terms))) H d e =
      let b = begins_logical plain.spec_implication (term (forget F) (term (forget g) no_terms)) H e in
      let one = one_more b.0 b.2 in
      let two = one_more one.1 one.4 in
      let whole : H ≡ spine (logical plain.spec_implication) (term one.0 (term two.0 no_terms)) = b.1 ∙ ap (spine (logical plain.spec_implication)) (one.2 ∙ ap (term one.0) (two.2 ∙ ap (term two.0) (no_more two.4))) in
      let list : forget (before F L) ≡ forget (before one.0 M) = ap (λ k. spine (constant (codes "::")) (term k (term (forget L) no_terms))) one.3 ∙ ap (λ k. spine (constant (codes "::")) (term (forget one.0) (term k no_terms))) d in
      subst (λ K. Suit (open_goal m (before F L) g) (open_goal marks.plain M K)) (sym whole) (goal_suits (before F L) (before one.0 M) g two.0 list two.3)
  goal_suits L M (spine (logical plain.spec_conjunction) (term F (term g no_terms))) H d e =
      let b = begins_logical plain.spec_conjunction (term (forget F) (term (forget g) no_terms)) H e in
      let one = one_more b.0 b.2 in
      let two = one_more one.1 one.4 in
      let whole : H ≡ spine (logical plain.spec_conjunction) (term one.0 (term two.0 no_terms)) = b.1 ∙ ap (spine (logical plain.spec_conjunction)) (one.2 ∙ ap (term one.0) (two.2 ∙ ap (term two.0) (no_more two.4))) in
      let r = goal_suits L M F one.0 d one.3 in
      let q = goal_suits L M g two.0 d two.3 in
      subst (λ K. Suit (both (open_goal m L F) (open_goal m L g)) (open_goal marks.plain M K)) (sym whole) (suc (r.0 + q.0), both_suit r.1 q.1)
  goal_suits L M G H d e = (0, at_leaf (subst (IsLeaf (marked_judgement m L G)) (sym (single_opened marks.plain M H (single_same G H e tt))) (judged_leaf m s L G M H d e)))
