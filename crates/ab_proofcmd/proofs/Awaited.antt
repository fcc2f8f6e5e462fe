-- The first formula that is awaited, and the others behind it.
use Rattle.std.specs.List.{All}
use Rattle.std.proofs.Common.{◌≡◌, ℕ, ◌+◌, ◌-◌, ◌≤◌, List, map, take, drop, length, slice_index_or, sym, subst}
use Rattle.ab_norm.specs.ab_store.specs.declared.node.TermId.{TermId}
use Rattle.ab_logic.specs.WorldGrowth.{Grows}
use Rattle.ab_logic.specs.Worlds.{Holds, read}
use Rattle.ab_logic.specs.declared.world.World.{World}
use Rattle.ab_hypothesis.specs.ab_steps.specs.ab_kernel.specs.Layout.{Held}
use Rattle.ab_proofcmd.specs.GoalCounts.{AwaitsOne, AwaitsAll}
use Rattle.ab_proofcmd.proofs.Bared.{awaits_more, same_reads}
use Rattle.ab_proofcmd.proofs.Staged.{rest_all, formulas_still, first_and_rest}

pub rest_held : (w v : World) → Grows w v → (ts : List TermId) → 1 ≤ length ts → All (Holds w) ts → All (Holds v) (take (length ts - 1) (drop 1 ts))
rest_held w v grows ts l held = formulas_still w v grows (take (length ts - 1) (drop 1 ts)) (rest_all (Holds w) ts l held)

pub awaits_first : (w v u : World) (p q r : Held) (place next last : ℕ) (ts : List TermId) (d : TermId) (xs ys : List (List ℕ)) → 1 ≤ length ts → Grows w v → All (Holds w) ts → next ≡ place + 1
    → AwaitsOne w p v q place xs (read w (slice_index_or ts 0 d)) ys → AwaitsAll v q u r next ys (map (read v) (take (length ts - 1) (drop 1 ts))) last
    → AwaitsAll w p u r place xs (map (read w) ts) last
awaits_first w v u p q r place next last ts d xs ys l grows held e one all =
    let rest : List TermId = take (length ts - 1) (drop 1 ts) in
    let same : map (read v) rest ≡ map (read w) rest = same_reads w v grows rest (rest_all (Holds w) ts l held) in
    let here : AwaitsAll v q u r (place + 1) ys (map (read w) rest) last =
    subst (λ n. AwaitsAll v q u r n ys (map (read w) rest) last) e (subst (λ Fs. AwaitsAll v q u r next ys Fs last) same all) in
    subst (λ us. AwaitsAll w p u r place xs (map (read w) us) last) (sym (first_and_rest ts d l))
    (awaits_more w v u p q r place last (read w (slice_index_or ts 0 d)) (map (read w) rest) xs ys one here)
