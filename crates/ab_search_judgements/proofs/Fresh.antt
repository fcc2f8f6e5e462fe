-- THE FRESH ARGUMENTS of a clause's atom: they are right sides for every raising.
use Rattle.std.proofs.Common.{◌≡◌, ◌⊎◌, ℕ, List, [], map, codes, true, ◌∙◌, ap, subst}
use Rattle.std.specs.Prelude.{Contains}
use Rattle.ab_term.specs.Types.{Ty, o}
use Rattle.ab_term.specs.Terms as tree
use Rattle.ab_term.specs.Terms.{Nominal, constant, spine, Terms, Read}
use Rattle.ab_term.specs.Typing.{Signature, HasType}
use Rattle.ab_term.specs.Names.{support, support_of_all, rename, rename_all, permute, moved_by}
use Rattle.ab_term.specs.Translation.{forget, forget_all}
use Rattle.ab_term.specs.Variables.{variables, image_all_by}
use Rattle.ab_term.proofs.Permuting.{rename_agrees}
use Rattle.ab_term.proofs.UpToNames.{rename-itself}
use Rattle.ab_unifiers.specs.Replacements.{holds}
use Rattle.ab_unifiers.specs.Unification.{Equation}
use Rattle.ab_unifiers.specs.Clauses.{Clause, numbered}
use Rattle.ab_unifiers.specs.Alternatives.{made_terms, arguments_equal}
use Rattle.ab_unifiers.specs.Member.{HasMember}
use Rattle.ab_unifiers.proofs.Unifier as takes_of
use Rattle.ab_formulas.specs.Programs.{IsProgramClause}
use Rattle.ab_pattern_matching.specs.Raising.{Bare, raising, AreRaised}
use Rattle.ab_pattern_matching.proofs.OfClauses.{from_to}
use Rattle.ab_search_clauses.proofs.Along as along
use Rattle.ab_search_clauses.proofs.Along.{each_unmapped, images_are}
use Rattle.ab_search_judgements.proofs.Demands.{fresh_arguments, fresh_takes, fresh_variables, fresh_nameless, atom_raised}
use Rattle.ab_search_judgements.proofs.Raising.{listed, listed_typed, listed_variables, listed_support, listed_renamed, each_raised}
use Rattle.ab_search_judgements.proofs.Shapes as shapes
use Rattle.ab_search_judgements.proofs.Shapes.{Become, images_become, renamed_are}

all_renamed : (m : Nominal → Nominal) (ts : Terms ℕ (Unit {0})) → ((a : Nominal) → Contains (support_of_all ts) a → ⊥) → rename_all m ts ≡ ts
all_renamed m ts none =
    let whole : tree.Term ℕ (Unit {0}) = spine (constant []) ts in
    let stays : rename m whole ≡ whole = rename_agrees m (λ a. a) whole (λ a k. absurd (none a k)) ∙ rename-itself whole in
    cc

module _ (sg : Signature) (has : HasMember sg) (c : Clause (List ℕ)) (right : IsProgramClause sg c) (N : ℕ) where
  abbrev ts : List Bare
  ts = listed (fresh_arguments sg has c right N)

  pub fresh_right : (left other : List Nominal) (ps : List (Nominal × Nominal)) (t : Bare) → Contains ts t
      → ((G : List Ty) × (A : Ty) × HasType sg G t A) × ((y : tree.Variable ℕ) → holds (variables t) y ≡ true → holds (numbered N (shapes.own sg has.cons c right)) y ≡ true) × ((a : Nominal) → Contains (support t) a → Contains left a ⊎ ¬ (Contains other (moved_by ps a)))
  fresh_right left other ps t m = (
    listed_typed sg (fresh_arguments sg has c right N) (fresh_takes sg has c right N).1 t m,
    (λ y h. fresh_variables sg has c right N y (listed_variables (fresh_arguments sg has c right N) t m y h)),
    (λ a i. absurd (fresh_nameless sg has c right N a (listed_support (fresh_arguments sg has c right N) t m a i))),
  )

  pub fresh_moved : (ps : List (Nominal × Nominal)) → map (permute ps) ts ≡ ts
  fresh_moved ps = listed_renamed (moved_by ps) (fresh_arguments sg has c right N) ∙ ap listed (all_renamed (moved_by ps) (fresh_arguments sg has c right N) (fresh_nameless sg has c right N))

  -- some equations that are raised so
  pub between : (n : ℕ) (S : List Nominal) → (es : List (Equation (List ℕ))) × AreRaised (from_to N n S) (numbered N (shapes.own sg has.cons c right)) ts es
  between n S =
      let own = shapes.own sg has.cons c right in
      let ms = made_terms (codes "x") n S own in
      let head = shapes.atom_head sg has.cons c right ms in
      let whole : HasType sg [] (spine (constant ((shapes.is_right sg has.cons c right).head).0) head.0) o = subst (λ t. HasType sg [] t o) head.1 (shapes.atom_typed sg has.cons c right ms (along.made_are sg n S own [])) in
      let takes = takes_of.arguments_of sg (codes "x") whole in
      let both : spine (constant ((shapes.is_right sg has.cons c right).head).0) (image_all_by (raising (from_to N n S) (numbered N own)) (fresh_arguments sg has c right N)) ≡ spine (constant ((shapes.is_right sg has.cons c right).head).0) (forget_all head.0) =
      atom_raised sg has c right N n S ∙ ap forget head.1 in
      let same : forget_all head.0 ≡ image_all_by (raising (from_to N n S) (numbered N own)) (fresh_arguments sg has c right N) = cc in
      (arguments_equal (codes "x") 0 head.0 head.0, each_raised sg (from_to N n S) (numbered N own) 0 head.0 head.0 (fresh_arguments sg has c right N) takes.2 takes.2 same)
