-- What the walk and the completed table say together.
use Rattle.std.proofs.Common.{◌≡◌, ◌↔◌, List, [], Bool, true, false, Option, sym, ◌∙◌, ap, subst}
use Rattle.std.specs.Prelude.{IfSome, IsNone}
use Rattle.std.proofs.lemmas.List.Elements.{All-nil}
use Rattle.ab_term.specs.Names.{moved_by, rename, permute, IsPermutationTable, EqualUpToNames}
use Rattle.ab_term.specs.Translation.{forget, EqualPastHints}
use Rattle.ab_term.proofs.Permutations.{one_to_one, swapped}
use Rattle.ab_store.specs.ab_types.specs.Entries.{Table}
use Rattle.ab_term.specs.Terms.{Read}
use Rattle.ab_norm.specs.declared.nominal.Swap.{Swap}
use Rattle.ab_norm.specs.declared.nominal.Permutation.{Permutation}
use Rattle.ab_norm.specs.Nominals.{nominal_of, pairs_of}
use Rattle.ab_norm.specs.NameMatches.{IsRenaming, Sends, Found}
use Rattle.ab_norm.specs.PermutationTables.{Permutes}

module _ (types : Table) (x y : Read) (decided : List Swap) (answer : Bool) (found : Found types [] decided (λ f. forget (rename f x) ≡ forget y) answer) where
  renaming : (ps : _) → IsPermutationTable ps → IsRenaming (moved_by ps)
  renaming ps t =
      let one = one_to_one ps t in
      record {
        injective = λ a b e. sym (one.back a) ∙ ap (moved_by (swapped ps)) e ∙ one.back b;
        keeps = one.keeps;
      }

  pub no_renaming : answer ≡ false → EqualUpToNames x y → ⊥
  no_renaming no_answer (ps, t, e) =
      let f = sym no_answer ∙ (found.complete (moved_by ps) (renaming ps t) (All-nil (λ (p : Swap). moved_by ps (nominal_of types p.from) ≡ nominal_of types p.to)) e).0 in
      absurd (cc)

  module _ (table : List Swap) (yes : answer ≡ true) (all : Permutes types table × Sends types (moved_by (pairs_of types table)) decided) where
    pub sent : EqualPastHints (permute (pairs_of types table) x) y
    sent = found.sound yes (moved_by (pairs_of types table)) all.1

    pub up_to : EqualUpToNames x y
    up_to = (pairs_of types table, all.0.1, sent)

-- of other terms that are equal to these

pub sends_alike : (types : Table) (found : Option Permutation) {x y u v : Read} → x ≡ u → y ≡ v
    → IfSome found (λ by. EqualPastHints (permute (pairs_of types by.pairs) x) y) → IfSome found (λ by. EqualPastHints (permute (pairs_of types by.pairs) u) v)
sends_alike types found {y = y} {u = u} e f sent =
    subst (λ w. IfSome found (λ by. EqualPastHints (permute (pairs_of types by.pairs) u) w)) f
    (subst (λ w. IfSome found (λ by. EqualPastHints (permute (pairs_of types by.pairs) w) y)) e sent)

pub none_alike : (found : Option Permutation) {x y u v : Read} → x ≡ u → y ≡ v → IsNone found ↔ (EqualUpToNames x y → ⊥) → IsNone found ↔ (EqualUpToNames u v → ⊥)
none_alike found {y = y} {u = u} e f none =
    subst (λ w. IsNone found ↔ (EqualUpToNames u w → ⊥)) f (subst (λ w. IsNone found ↔ (EqualUpToNames w y → ⊥)) e none)
