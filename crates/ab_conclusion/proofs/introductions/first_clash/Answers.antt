use Rattle.std.proofs.Common.{◌≡◌, ◌<◌, ◌+◌, ℕ, zero, suc, Bool, true, false, List, [], ◌∷◌, ◌++◌, Some, length, take, drop, get_or, refl, sym, ◌∙◌, ap, arith}
use Rattle.std.specs.Prelude.{◌||◌, if◌then◌else◌, bytes_eq}
use Rattle.std.specs.List.{list_any}
use Rattle.std.proofs.lemmas.List.{drop_more, take_more}
use Rattle.ab_logic.specs.SequentReadings.{sequent_of}
use Rattle.ab_formulas.specs.Sequents.{Sequent}
use Rattle.ab_effects.specs.ProofCommands.{clashing_names, is_used}
use Rattle.ab_meaning.specs.Refusals.{clash}
use Rattle.ab_conclusion.proofs.introductions.first_clash.Goals as goal

-- the default of a place that is there makes no difference
any_default : {X : Type 0} (xs : List X) (k : ℕ) (d e : X) → k < length xs → get_or xs k d ≡ get_or xs k e
any_default [] k d e l = absurd (omega (arith, l))
any_default (x ∷ xs) zero d e l = refl
any_default (x ∷ xs) (suc k) d e l = any_default xs k d e (omega (arith, l))

-- the name that comes next clashes, or the names behind it are looked at
next : (xs : List (List ℕ)) (k : ℕ) (s : Sequent) (b : Bool) → k < length xs
    → b ≡ (is_used s (get_or xs k []) || list_any (λ y. bytes_eq y (get_or xs k [])) (take k xs))
    → clashing_names (take k xs) (drop k xs) s ≡ (if b then Some (clash (get_or xs k [])) else clashing_names (take (k + 1) xs) (drop (k + 1) xs) s)
next xs k s b within is =
    ap (λ l. clashing_names (take k xs) l s) (drop_more xs k [] within)
    ∙ ap (λ t. if t then Some (clash (get_or xs k [])) else clashing_names (take k xs ++ get_or xs k [] ∷ []) (drop (k + 1) xs) s) (sym is)
    ∙ ap (λ l. if b then Some (clash (get_or xs k [])) else clashing_names l (drop (k + 1) xs) s) (sym (take_more xs k [] within))

pub returns-then-branch-clause-first : goal.returns-then-branch-clause-first
returns-then-branch-clause-first c w =
    let xs = c.args.names.now in
    let k = c.loop-place.place in
    let s = sequent_of w c.args.goal.now in
    let x : c.index-names-place.result ≡ get_or xs k [] = c.index-names-place.is ∙ any_default xs k c.index-names-place.result [] (omega arith) in
    let is : true ≡ (is_used s (get_or xs k []) || list_any (λ y. bytes_eq y (get_or xs k [])) (take k xs)) =
    sym c.if-branch.true ∙ c.in_ok-clashes.ensures.clashes w
    ∙ ap (λ l. is_used s c.index-names-place.result || list_any (λ y. bytes_eq y c.index-names-place.result) l) c.loop-place.invariant.noted
    ∙ ap (λ n. is_used s n || list_any (λ y. bytes_eq y n) (take k xs)) x in
    sym (next xs k s true (omega arith) is) ∙ c.loop-place.invariant.left w

pub loop-place-preserved : goal.loop-place-preserved
loop-place-preserved c =
    let xs = c.args.names.now in
    let k = c.loop-place.place in
    let x : c.index-names-place.result ≡ get_or xs k [] = c.index-names-place.is ∙ any_default xs k c.index-names-place.result [] (omega arith) in
    record {
      noted = c.in_ok-clashes.ensures.noted c.if-branch.false ∙ ap (λ l. l ++ c.index-names-place.result ∷ []) c.loop-place.invariant.noted
          ∙ ap (λ n. take k xs ++ n ∷ []) x ∙ sym (take_more xs k [] (omega arith));
      left = λ w.
          let s = sequent_of w c.args.goal.now in
          let is : false ≡ (is_used s (get_or xs k []) || list_any (λ y. bytes_eq y (get_or xs k [])) (take k xs)) =
          sym c.if-branch.false ∙ c.in_ok-clashes.ensures.clashes w
          ∙ ap (λ l. is_used s c.index-names-place.result || list_any (λ y. bytes_eq y c.index-names-place.result) l) c.loop-place.invariant.noted
          ∙ ap (λ n. is_used s n || list_any (λ y. bytes_eq y n) (take k xs)) x in
          sym (next xs k s false (omega arith) is) ∙ c.loop-place.invariant.left w;
    }
