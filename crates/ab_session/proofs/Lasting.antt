-- What lasts from a session to a later one, and where a command leads that takes nothing back.
use Rattle.std.specs.Prelude.{slice_get}
use Rattle.std.proofs.Common.{◌≡◌, ◌⊎◌, inl, inr, true, false, ℕ, ◌+◌, ◌<◌, ◌≤◌, Bool, List, [], ◌∷◌, ◌++◌, length, Option, refl, sym, ◌∙◌, ap, arith, append-nil, append_assoc, length-append}
use Rattle.ab_formulas.proofs.KernelSplits.{get_still}
use Rattle.ab_logic.proofs.Growing.{grows_on}
use Rattle.ab_logic.specs.WorldGrowth.{Grows}
use Rattle.ab_proofcmd.specs.ab_hypothesis.specs.ab_steps.specs.ab_kernel.specs.Layout.{Held}
use Rattle.ab_proofcmd.specs.ab_hypothesis.specs.ab_steps.specs.ab_kernel.proofs.Later.{same_read}
use Rattle.ab_states.specs.ab_specification.specs.ab_declare.proofs.Restoring.{restored_grows, restored_itself}
use Rattle.ab_states.specs.State.{State}
use Rattle.ab_session.specs.declared.attempt.Attempt.{Attempt}
use Rattle.ab_session.specs.declared.command_history.Deed.{Deed}
use Rattle.ab_session.specs.declared.command_history.Deed.TheVariants.{Went, Began, Completed, GaveUp}
use Rattle.ab_session.specs.Contents.{Contents, entry_of, entries_of, state_of}
use Rattle.ab_session.specs.Sessions.{IsSound}
use Rattle.ab_session.specs.Origins.{CameBy, CameFrom, Precedes, itself, further, IsSame}
use Rattle.ab_session.specs.Lasting.{Lasts}
use Rattle.ab_session.specs.SessionAnswers.{KeepsOneMore, KeepsFewer}
use Rattle.ab_session.proofs.Origins.{length-entries, fewer}

-- The same session, and one that came from it

pub same_itself : (s : Contents) → IsSame s s
same_itself s = record { world = restored_itself s.world; proofs = refl; attempt = refl; all_subgoals = refl; past = refl }

as_many : (s t : Contents) → IsSame s t → length (state_of t).kept ≡ length (state_of s).kept
as_many s t same = ap (λ ks. length (entries_of ks)) same.past

one_more : (s t : Contents) → CameFrom s t → length (state_of t).kept ≡ length (state_of s).kept + 1
one_more s t from = ap (λ ks. length (entries_of ks)) from.past ∙ length-append (entries_of s.past) (entry_of from.last ∷ [])

-- WHERE NOTHING IS TAKEN BACK
module _ (s t : Contents) (on : IsSame s t ⊎ CameFrom s t) where
  pub none_fewer : KeepsFewer (state_of s) (state_of t) → ⊥
  none_fewer less =
      elim on [
        | inl same ↦ omega (arith, less, as_many s t same)
        | inr from ↦ omega (arith, less, one_more s t from)
      ]

  pub came_if_more : (bytes : List ℕ) → KeepsOneMore (state_of s) bytes (state_of t) → CameFrom s t
  came_if_more bytes more =
      elim on [
        | inl same ↦ absurd (omega (arith, as_many s t same, ap length more.kept, length-append (state_of s).kept (more.entry ∷ [])))
        | inr from ↦ from
      ]

  pub same_if_same : state_of t ≡ state_of s → IsSame s t
  same_if_same e =
      elim on [
        | inl same ↦ same
        | inr from ↦ absurd (omega (arith, one_more s t from, ap (λ (u : State). length u.kept) e))
      ]

-- by whether the reply is one of those of kept commands
pub goes_by : (s t : Contents) (b : Bool) → (b ≡ false → IsSame s t) → (b ≡ true → CameFrom s t) → IsSame s t ⊎ CameFrom s t
goes_by s t true same from = inr (from refl)
goes_by s t false same from = inl (same refl)

-- an earlier session that keeps no fewer is the same
pub none_back : (t s : Contents) → Precedes t s → ¬ KeepsFewer (state_of s) (state_of t) → IsSame s t
none_back t _ itself none = same_itself t
none_back t s (further {t = m} p from) none =
    absurd (none (let less : length (state_of t).kept < length (state_of s).kept = omega (arith, fewer t m p, ap length from.past, length-entries t.past, length-entries s.past) in less))

-- WHAT LASTS

behind_by : (d : Deed) (n : ℕ) (ps qs : List Held) (a b : Option Attempt) → CameBy d n ps a qs b → (more : List Held) × (qs ≡ ps ++ more)
behind_by Went n ps qs a b by = ([], by.0 ∙ sym (append-nil ps))
behind_by Began n ps qs a b by = ([], by.0 ∙ sym (append-nil ps))
behind_by (Completed x F) n ps qs a b by = (by.3.proof ∷ [], by.3.pushed)
behind_by (GaveUp c) n ps qs a b by = ([], by.0 ∙ sym (append-nil ps))

pub came_lasts : (e s : Contents) → CameFrom e s → Lasts e s
came_lasts e s from = record {
  world = from.grows;
  proofs = behind_by from.last.deed from.last.before.steps e.proofs s.proofs e.attempt s.attempt from.by;
  derivations = λ place p at. same_read e.world s.world from.grows p (from.sound.proofs.each place p at).held;
}

pub same_lasts : (s t : Contents) → IsSound s → IsSame s t → Lasts s t
same_lasts s t is same =
    let grows : Grows s.world t.world = restored_grows s.world t.world is.world same.world in
    record {
      world = grows;
      proofs = ([], same.proofs ∙ sym (append-nil s.proofs));
      derivations = λ place p at. same_read s.world t.world grows p (is.proofs.each place p at).held;
    }

pub going_lasts : (s t : Contents) → IsSound s → IsSame s t ⊎ CameFrom s t → Lasts s t
going_lasts s t is on =
    elim on [
      | inl same ↦ same_lasts s t is same
      | inr from ↦ came_lasts s t from
    ]

lasts_on : (r s t : Contents) → Lasts r s → Lasts s t → Lasts r t
lasts_on r s t a b = record {
  world = grows_on r.world s.world t.world a.world b.world;
  proofs = (a.proofs.0 ++ b.proofs.0, b.proofs.1 ∙ ap (λ ps. ps ++ b.proofs.0) a.proofs.1 ∙ append_assoc r.proofs a.proofs.0 b.proofs.0);
  derivations = λ place p at.
      b.derivations place p (ap (λ ps. slice_get ps place) a.proofs.1 ∙ get_still r.proofs a.proofs.0 place p at)
      ∙ a.derivations place p at;
}

-- EARLIER SESSIONS LAST
pub earlier_lasts : (s t : Contents) → IsSound t → Precedes s t → Lasts s t
earlier_lasts s _ is itself = same_lasts s s is (same_itself s)
earlier_lasts s t is (further {t = m} p from) = lasts_on s m t (earlier_lasts s m from.sound p) (came_lasts m t from)

-- STEPS NEVER FALL where declarations and types go, one for each
pub counted_back : (t s : Contents) (n m : ℕ) → CameFrom t s → m + length t.world.types + length t.world.additions ≡ n + length s.world.types + length s.world.additions → n ≤ m
counted_back t s n m from sum =
    omega (arith, sum, ap length from.grows.types.1, length-append t.world.types from.grows.types.0, ap length from.grows.additions.1, length-append t.world.additions from.grows.additions.0)
