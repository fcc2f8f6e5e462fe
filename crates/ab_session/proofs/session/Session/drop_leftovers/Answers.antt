use Rattle.std.specs.Prelude.{slice_get}
use Rattle.std.specs.Option.{option_copied}
use Rattle.std.proofs.Common.{◌≡◌, ◌-◌, length, List, Option, Some, refl, sym, ◌∙◌, ap, subst}
use Rattle.ab_store.specs.ab_types.specs.declared.ids.TypeId.{TypeId}
use Rattle.ab_store.specs.declared.mark.Mark.{Mark}
use Rattle.ab_logic.specs.declared.world.World.{World}
use Rattle.ab_proofcmd.specs.ab_hypothesis.specs.ab_steps.specs.ab_kernel.specs.Layout.{Held}
use Rattle.ab_proof_marks.specs.ab_remains.specs.RaisedMarks.{IsRaised}
use Rattle.ab_proof_marks.specs.NamedTypes.{IsLastType}
use Rattle.ab_session.specs.declared.attempt.Attempt.{Attempt}
use Rattle.ab_session.specs.declared.command_history.Kept.{Kept}
use Rattle.ab_session.specs.Contents.{Contents, contents}
use Rattle.ab_session.specs.Origins.{CameFrom}
use Rattle.ab_session.specs.LatestNames.{HoldsLatest, KeepsLatest, HasTypesLatest, IsFreed}
use Rattle.ab_session.proofs.Sessions.{in_world}
use Rattle.ab_session.proofs.Remaining.{counted, reaches, there, moment_of, sound_types, freed, session_left}
use Rattle.ab_session.proofs.session.Session.drop_leftovers.Goals as goal

-- the mark was raised for what the latest kept command made
abbrev IsFor : World → Kept → Option Attempt → List Held → Mark → Type 0
IsFor w k o ps m = IsRaised w (λ v. KeepsLatest w v k.deed k.before.steps o ps) (λ v. HoldsLatest v k.deed k.before.steps o ps) k.before.moment.mark m

for_parts : (w : World) (k : Kept) (o p : Option Attempt) (ps qs : List Held) (m : Mark) → o ≡ p → ps ≡ qs → IsFor w k o ps m → IsFor w k p qs m
for_parts w k o p ps qs m e f h = subst (λ a. IsFor w k a qs m) e (subst (λ xs. IsFor w k o xs m) f h)

-- the type is the last that its steps name
abbrev IsLastIn : Kept → Option Attempt → List Held → Option TypeId → Type 0
IsLastIn k o ps last = IsLastType (λ t. HasTypesLatest t k.deed k.before.steps o ps) last

types_in_parts : (k : Kept) (o p : Option Attempt) (ps qs : List Held) (last : Option TypeId) → o ≡ p → ps ≡ qs → IsLastIn k o ps last → IsLastIn k p qs last
types_in_parts k o p ps qs last e f h = subst (λ a. IsLastIn k a qs last) e (subst (λ xs. IsLastIn k o xs last) f h)

last_is : (ks xs : List Kept) (k : Kept) → xs ≡ ks → Some k ≡ slice_get xs (length xs - 1) → slice_get ks (length ks - 1) ≡ Some k
last_is ks xs k same e = subst (λ ys. slice_get ys (length ys - 1) ≡ Some k) same (sym e)

pub drop_unnamed-requires-clause-before : goal.drop_unnamed-requires-clause-before
drop_unnamed-requires-clause-before g c =
    let s = contents c.self.inside in
    let ks = c.self.inside.kept.items in
    let k = c.in-Some.latest.now in
    let at = last_is ks c.deref.result.now k c.deref.ensures.value (sym (ap option_copied c.in-Some.is) ∙ c.last.ensures.value) in
    let from = there s ks k c.self.invariant refl at in (
      from.from.world,
      from.came.sound.world,
      counted from.from.world k.before.moment (moment_of s ks k c.self.invariant refl at from.from from.came),
      (moment_of s ks k c.self.invariant refl at from.from from.came).types,
      from.came.grows,
    )

pub drop_unnamed-requires-clause-within : goal.drop_unnamed-requires-clause-within
drop_unnamed-requires-clause-within g c =
    let s = contents c.self.inside in
    let ks = c.self.inside.kept.items in
    let k = c.in-Some.latest.now in
    let at = last_is ks c.deref.result.now k c.deref.ensures.value (sym (ap option_copied c.in-Some.is) ∙ c.last.ensures.value) in
    let from = there s ks k c.self.invariant refl at in
    c.mark_to_latest-named.ensures.within
    (reaches from.from.world s.world k.before.moment (moment_of s ks k c.self.invariant refl at from.from from.came) from.came.grows)

pub drop_unnamed-requires-clause-named_type : goal.drop_unnamed-requires-clause-named_type
drop_unnamed-requires-clause-named_type g c =
    let s = contents c.self.inside in
    let k = c.in-Some.latest.now in
    let is_last = types_in_parts k _ s.attempt _ s.proofs c.last_type_of_latest-named_type.result c.as_ref-2.ensures.value c.deref-3.ensures.value c.last_type_of_latest-named_type.ensures in
    (is_last s.world.types).1 (sound_types s k.deed k.before.steps c.self.invariant.sound)

pub invariant_of-self : goal.invariant_of-self
invariant_of-self g c =
    let s = contents c.self.inside in
    let ks = c.self.inside.kept.items in
    let k = c.in-Some.latest.now in
    let at = last_is ks c.deref.result.now k c.deref.ensures.value (sym (ap option_copied c.in-Some.is) ∙ c.last.ensures.value) in
    let raised = for_parts s.world k _ s.attempt _ s.proofs c.mark_to_latest-named.result c.as_ref.ensures.value c.deref-2.ensures.value c.mark_to_latest-named.ensures in
    let is_last = types_in_parts k _ s.attempt _ s.proofs c.last_type_of_latest-named_type.result c.as_ref-2.ensures.value c.deref-3.ensures.value c.last_type_of_latest-named_type.ensures in
    let dropped = c.drop_unnamed.ensures in
    session_left s ks k c.self.invariant refl at c.drop_unnamed.new.world c.mark_to_latest-named.result raised c.last_type_of_latest-named_type.result is_last dropped.left dropped.reaches dropped.enough dropped.before dropped.least dropped.least_types

pub returns-clause-freed : goal.returns-clause-freed
returns-clause-freed g c = λ e came.
    let s = contents c.self.inside in
    let ks = c.self.inside.kept.items in
    let k = c.in-Some.latest.now in
    let at = last_is ks c.deref.result.now k c.deref.ensures.value (sym (ap option_copied c.in-Some.is) ∙ c.last.ensures.value) in
    let raised = for_parts s.world k _ s.attempt _ s.proofs c.mark_to_latest-named.result c.as_ref.ensures.value c.deref-2.ensures.value c.mark_to_latest-named.ensures in
    let is_last = types_in_parts k _ s.attempt _ s.proofs c.last_type_of_latest-named_type.result c.as_ref-2.ensures.value c.deref-3.ensures.value c.last_type_of_latest-named_type.ensures in
    let dropped = c.drop_unnamed.ensures in
    subst (λ (o : Contents). IsFreed e o (in_world c.drop_unnamed.new.world s)) c.self.view_is
    (freed s ks k c.self.invariant refl at c.drop_unnamed.new.world c.mark_to_latest-named.result raised c.last_type_of_latest-named_type.result is_last dropped.left dropped.reaches dropped.enough dropped.before dropped.least dropped.least_types e
    (subst (CameFrom e) (sym c.self.view_is) came))
