-- What a variable stands for is determined by what it is, given names that don't stand in it.
use Rattle.std.proofs.Common.{◌≡◌, ℕ, List, [], ◌++◌, Option, sym, ◌∙◌, ap}
use Rattle.ab_term.specs.Types.{Ty, kind}
use Rattle.ab_term.specs.Terms.{Variable, Head, Term, Terms}
use Rattle.ab_term.specs.Typing.{Signature, HasType, TakeType}
use Rattle.ab_term.specs.Substitution.{reduce}
use Rattle.ab_term.specs.Variables.{image_by}
use Rattle.ab_term.specs.Abstraction.{Only, abstracted}
use Rattle.ab_term.proofs.Closed.{closed_typed}
use Rattle.ab_term.proofs.Images.{IsTypedMap, image_by_typed, image_through}
use Rattle.ab_term.proofs.Only.{include, among_front}
use Rattle.ab_term.proofs.Abstracting.{sends_among}
use Rattle.ab_term.proofs.Determined.{AreApart, NoIndex, PutsOnly, image_has, closed_value, one_value}
use Rattle.ab_unifiers.proofs.Views.{IsPattern}
use Rattle.ab_unifiers.proofs.Values.{pattern_named, pattern_terms, reduce_plain}
use Rattle.ab_unifiers.proofs.Readings.{pattern_distinct}
use Rattle.ab_unifiers.proofs.Agreeing.{image_pattern}

module _ (sg : Signature) (others : List (Head ℕ)) (none : NoIndex others) where
  -- WHAT IS PUT IN BECOMES v, where the term that it was made of becomes v, given the names
  pub determined : {G : List Ty} {A : Ty} {c : List ℕ} {us : Terms ℕ (Unit {0})} {hs : List (Head ℕ)} (f : Variable ℕ → Option (Term ℕ (Unit {0}))) → IsTypedMap sg f → PutsOnly others f → (t v : Term ℕ (Unit {0})) → IsPattern A us hs → TakeType sg G us A (kind c) → AreApart hs others → HasType sg G t (kind c) → Only hs t → HasType sg [] v A → Only others v → image_by f t ≡ reduce A v us
      → image_by f (abstracted tt A hs t) ≡ v
  determined {G = G} {A = A} {c = c} {us = us} {hs = hs} f typed has t v p ds a d o dv ov e =
      let named = pattern_named sg p ds in
      let names = pattern_terms p in
      let whole = abstracted tt A hs t in
      let closed = closed_value sg others none hs t named d (include hs (hs ++ others) (sends_among hs (hs ++ others) (λ g b. among_front hs others g b)) t o) in
      let nameless : Only others (image_by f whole) = image_has others none f has others (λ g b. b) whole closed.1 in
      one_value sg others (image_by f whole) v named (pattern_distinct p) a (image_by_typed sg ℕ (Unit {0}) f typed closed.0) nameless dv ov
      (ap (reduce A (image_by f whole)) (sym names)
      ∙ sym (image_through sg ℕ (Unit {0}) f typed A G whole us c (closed_typed sg G closed.0) ds ∙ ap (reduce A (image_by f whole)) (image_pattern f p))
      ∙ ap (image_by f) (reduce_plain sg t p named d)
      ∙ e
      ∙ ap (reduce A v) names)
