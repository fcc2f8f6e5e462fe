use Rattle.std.proofs.Common.{List, [], ◌∷◌, ◌∙◌, ap, map}
use Rattle.ab_term.specs.Names.{moved_by, support_of_all, IsPermutationTable}
use Rattle.ab_term.specs.Terms.{terms_of}
use Rattle.ab_norm.specs.ab_store.specs.Trees.{tree_of}
use Rattle.ab_norm.specs.declared.nominal.Nominal.{Nominal}
use Rattle.ab_norm.specs.Nominals.{nominal_of, pairs_of}
use Rattle.ab_search_paths.proofs.Likenesses.{alike}
use Rattle.ab_search_paths.proofs.likeness.compare_terms.Goals as goal

pub returns : goal.returns
returns c =
    let T = c.args.world.now.types in
    let pairs = c.as_slice.result.now in
    let permutes : IsPermutationTable (pairs_of T pairs) = rw c.as_slice.ensures (rw c.in-Some.is at c.in_ok-by.ensures.permutes) in
    record {
      like = alike T c.in_ok-names.names.items c.in_ok-targets.targets.items pairs (support_of_all (terms_of (map (tree_of T c.args.world.now.store) (c.args.here ∷ [])))) permutes c.in_ok-names.ensures.held c.in_ok-targets.ensures.held c.in_ok-names.ensures.list
          (c.in_ok-targets.ensures.reads ∙ ap (λ (l : List Nominal). map (moved_by (pairs_of T pairs)) (map (nominal_of T) l)) c.deref.ensures.value);
    }
