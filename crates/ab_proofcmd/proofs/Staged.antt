-- What is there still once a world has grown, and lists of one element and others.
use Rattle.std.specs.List.{All}
use Rattle.std.proofs.Common.{◌≡◌, suc, ◌-◌, ◌<◌, ◌≤◌, List, [], ◌∷◌, take, drop, length, slice_index_or, refl, sym, ◌∙◌, ap, subst, arith, take_all}
use Rattle.std.proofs.lemmas.List.Elements.{All-head, All-tail, All-weaker}
use Rattle.ab_norm.specs.ab_store.specs.declared.node.TermId.{TermId}
use Rattle.ab_logic.specs.WorldGrowth.{Grows}
use Rattle.ab_logic.specs.Worlds.{Holds}
use Rattle.ab_logic.specs.declared.world.World.{World}
use Rattle.ab_norm.specs.ab_types.proofs.Entries.{type_still_held}
use Rattle.ab_uses.specs.UseReadings.{HoldsStage}
use Rattle.ab_uses.specs.declared.stage.Stage.{Stage}
use Rattle.ab_uses.specs.declared.stage.Stage.TheVariants.{Instance, Chosen, Antecedent}

stage_still : (w v : World) → Grows w v → (x : Stage) → HoldsStage w x → HoldsStage v x
stage_still w v grows (Instance t) held = grows.ids t held
stage_still w v grows (Chosen a F) held = (type_still_held w.types v.types grows.types a.ty held.0, grows.ids F held.1)
stage_still w v grows Antecedent held = tt

pub stages_still : (w v : World) → Grows w v → (stages : List Stage) → All (HoldsStage w) stages → All (HoldsStage v) stages
stages_still w v grows stages held = All-weaker (HoldsStage w) (HoldsStage v) (stage_still w v grows) stages held

pub formulas_still : (w v : World) → Grows w v → (ts : List TermId) → All (Holds w) ts → All (Holds v) ts
formulas_still w v grows ts held = All-weaker (Holds w) (Holds v) grows.ids ts held

rest_is : {X : Type 0} (x : X) (xs : List X) → take (length (x ∷ xs) - 1) (drop 1 (x ∷ xs)) ≡ xs
rest_is x xs = ap (λ n. take n xs) (let e : suc (length xs) - 1 ≡ length xs = omega arith in e) ∙ take_all (length xs) xs (omega arith)

pub rest_all : {X : Type 0} (P : X → Type 0) (xs : List X) → 1 ≤ length xs → All P xs → All P (take (length xs - 1) (drop 1 xs))
rest_all P [] l h = absurd (omega (arith, l))
rest_all P (x ∷ xs) l h = subst (All P) (sym (rest_is x xs)) (All-tail P x xs h)

pub first_all : {X : Type 0} (P : X → Type 0) (xs : List X) (d : X) → 1 ≤ length xs → All P xs → P (slice_index_or xs 0 d)
first_all P [] d l h = absurd (omega (arith, l))
first_all P (x ∷ xs) d l h = All-head P x xs h

pub first_and_rest : {X : Type 0} (xs : List X) (d : X) → 1 ≤ length xs → xs ≡ slice_index_or xs 0 d ∷ take (length xs - 1) (drop 1 xs)
first_and_rest [] d l = absurd (omega (arith, l))
first_and_rest (x ∷ xs) d l = ap (λ ys. x ∷ ys) (sym (rest_is x xs))

pub none_left : {X : Type 0} (xs : List X) → length xs < 1 → xs ≡ []
none_left [] l = refl
none_left (x ∷ xs) l = absurd (omega (arith, l))

-- where the first element owns memory
pub first_so : {X : Type 0} (xs : List X) (x : X) → 1 ≤ length xs → x ≡ slice_index_or xs 0 x → xs ≡ x ∷ take (length xs - 1) (drop 1 xs)
first_so xs x l is = first_and_rest xs x l ∙ ap (λ y. y ∷ take (length xs - 1) (drop 1 xs)) (sym is)

pub stages_rest : (w v : World) → Grows w v → (stages : List Stage) → 1 ≤ length stages → All (HoldsStage w) stages → All (HoldsStage v) (take (length stages - 1) (drop 1 stages))
stages_rest w v grows stages l held = stages_still w v grows (take (length stages - 1) (drop 1 stages)) (rest_all (HoldsStage w) stages l held)

pub rest_shorter : {X : Type 0} (xs : List X) → 1 ≤ length xs → length (take (length xs - 1) (drop 1 xs)) < length xs
rest_shorter [] l = absurd (omega (arith, l))
rest_shorter (x ∷ xs) l = let e : length (take (length (x ∷ xs) - 1) (drop 1 (x ∷ xs))) ≡ length xs = ap length (rest_is x xs) in omega (arith, e)
