-- What a proof command leaves of a proof, and of an attempt at a theorem.
use Rattle.std.specs.Prelude.{IfSome, IfOk, Result, Ok, Err, OnErr}
use Rattle.std.proofs.Common.{◌≡◌, ◌≢◌, ℕ, Bool, true, false, List, [], ◌∷◌, ◌++◌, Option, Some, None, refl, sym, ◌∙◌, ap, subst}
use Rattle.ab_grammar.specs.CommandTrees as told
use Rattle.ab_grammar.specs.CommandTrees.{ProofCommand}
use Rattle.ab_formulas.specs.Declarations.{Declarations, a_theorem, names_at, signature_in, theorem_in}
use Rattle.ab_formulas.specs.Formulas.{IsSentence}
use Rattle.ab_term.specs.Terms.{Read}
use Rattle.ab_logic.specs.WorldGrowth.{Grows}
use Rattle.ab_formulas.specs.NewNames.{Label}
use Rattle.ab_formulas.specs.Sequents.{Sequent}
use Rattle.ab_logic.specs.Worlds.{read, Holds, declarations_of, IsWorld}
use Rattle.ab_logic.specs.declared.world.World.{World}
use Rattle.ab_logic.proofs.Growing.{grows_on}
use Rattle.ab_theory.specs.Derivations.{History, Valid, open_goals, IsTreeOf}
use Rattle.ab_theory.specs.Assumptions.{assumed_by}
use Rattle.ab_theory.specs.Growth.{AddsNoClause}
use Rattle.ab_theory.proofs.SameRules.{adds_behind}
use Rattle.ab_proofcmd.specs.ab_hypothesis.specs.ab_steps.specs.ab_kernel.specs.Layout.{Held, history_of, goals_of}
use Rattle.ab_proofcmd.specs.ab_hypothesis.specs.ab_steps.specs.ab_kernel.proofs.Later.{AddsNone, same_history, outlived_proof}
use Rattle.ab_effects.specs.ProofCommands.{effect}
use Rattle.ab_meaning.specs.Refusals as row
use Rattle.ab_effects.specs.Debts.{debts_at}
use Rattle.ab_effects.specs.Row.{Row, Leads, Refuses}
use Rattle.ab_proofcmd.specs.ab_hypothesis.specs.ab_steps.specs.Progress.{Advances}
use Rattle.ab_proofcmd.specs.ab_hypothesis.specs.ab_steps.proofs.Following.{nothing_left}
use Rattle.ab_proofcmd.specs.ab_hypothesis.specs.ab_steps.proofs.OwedJust.{OwesJust}
use Rattle.ab_proofcmd.specs.ab_hypothesis.specs.ab_steps.specs.ProofEffects.{IsApplied, OwesFor, IsRefused, RefusedBy}
use Rattle.ab_proofcmd.specs.ab_hypothesis.specs.ab_steps.specs.declared.fault.ProofCommandFault.{ProofCommandFault}
use Rattle.ab_proofcmd.specs.ab_hypothesis.specs.ab_steps.specs.declared.fault.ProofCommandFault.TheVariants.{Unknown, Clash, TypeClash, Untyped, NoHypothesis, WrongShape, Mark, NoMatch, NotPattern, Unresolved, NamesSpent, Memory}
use Rattle.ab_proofcmd.specs.RowCommands.{HasRow}
use Rattle.ab_search_trees.specs.Outcomes.{Outcome, not_pattern, not_found}
use Rattle.ab_search.specs.Searched.{FirstComesTo, IsClosed, IsNotFound, IsOutside}
use Rattle.ab_states.specs.ab_specification.specs.ab_declare.specs.declared.refusal.Refusal.{Refusal}
use Rattle.ab_states.specs.ab_specification.specs.ab_declare.specs.declared.refusal.Refusal.TheVariants as Told
use Rattle.ab_states.specs.ab_specification.specs.ab_declare.specs.Moments.{HasMore, IsRestored}
use Rattle.ab_states.specs.ab_specification.specs.ab_declare.specs.Refusals.{refusal_for}
use Rattle.ab_states.specs.ab_specification.specs.ab_declare.proofs.Restoring.{restored_grows, restored_declares}
use Rattle.ab_states.specs.ProofCommandEffects.{Makes, RefusesSo, refusal_of, Denies}
use Rattle.ab_states.specs.Reply.{reply_of, done}
use Rattle.ab_states.specs.declared.reply.Reply.{Reply}
use Rattle.ab_session.specs.declared.attempt.Attempt.{Attempt}
use Rattle.ab_session.specs.Sessions.{IsTried}
use Rattle.ab_session.specs.ProofAttempts.{TellsOf, IsMade, IsDenied, IsUnchanged, GoesOn, IsCompleted, IsRefusedSo}

-- By rows

told_refuses : (r : Row) (f : ProofCommandFault) (q : Refusal) → RefusedBy r f → TellsOf f q → (cause : row.Refusal) × Refuses r cause × (q ≡ refusal_for cause)
told_refuses r (Unknown x) q h e = (row.unknown x, h, e)
told_refuses r (Clash x) q h e = (row.clash x, h, e)
told_refuses r (TypeClash p) q h e = (row.type_clash p, h, e)
told_refuses r (Untyped p) q h e = (row.untyped p, h, e)
told_refuses r (NoHypothesis x) q h e = (row.no_hypothesis x, h, e)
told_refuses r WrongShape q h e = (row.wrong_shape, h, e)
told_refuses r Mark q h e = (row.mark, h, e)
told_refuses r NoMatch q h e = (row.no_match, h, e)
told_refuses r (NotPattern i) q h e = (row.not_pattern i, h, e)
told_refuses r (Unresolved x) q h e = (row.unresolved x, h, e)
told_refuses r NamesSpent q h e = (row.names_spent, h, e)
told_refuses r (Memory f) q h e = absurd e

row_makes : (D : Declarations) (l : Label) (c : ProofCommand) (s : Sequent) (ps : List Sequent) → HasRow c → Leads (effect D l c s) ps → Makes D l c s ps
row_makes D l (told.intros xs) s ps built h = h
row_makes D l (told.induction ns) s ps built h = h
row_makes D l told.coinduction s ps built h = h
row_makes D l (told.case H keep) s ps built h = h
row_makes D l (told.apply H vs is) s ps built h = h
row_makes D l (told.backchain H is) s ps built h = h
row_makes D l (told.cut H K) s ps built h = h
row_makes D l (told.inst H is) s ps built h = h
row_makes D l (told.monotone H e) s ps built h = h
row_makes D l (told.search n) s ps built h = absurd built
row_makes D l told.skip s ps built h = h
row_makes D l told.split s ps built h = h
row_makes D l told.split_all s ps built h = h
row_makes D l told.left s ps built h = h
row_makes D l told.right s ps built h = h
row_makes D l (told.exists e) s ps built h = h
row_makes D l told.unfold_goal s ps built h = h
row_makes D l (told.assert e) s ps built h = h
row_makes D l (told.clear Hs) s ps built h = h
row_makes D l (told.rename H x) s ps built h = h
row_makes D l (told.permute ns x) s ps built h = h

row_denies : (D : Declarations) (l : Label) (c : ProofCommand) (s : Sequent) (q : Refusal) → HasRow c → RefusesSo D l c s q → Denies D l c s q
row_denies D l (told.intros xs) s q built h = h
row_denies D l (told.induction ns) s q built h = h
row_denies D l told.coinduction s q built h = h
row_denies D l (told.case H keep) s q built h = h
row_denies D l (told.apply H vs is) s q built h = h
row_denies D l (told.backchain H is) s q built h = h
row_denies D l (told.cut H K) s q built h = h
row_denies D l (told.inst H is) s q built h = h
row_denies D l (told.monotone H e) s q built h = h
row_denies D l (told.search n) s q built h = absurd built
row_denies D l told.skip s q built h = h
row_denies D l told.split s q built h = h
row_denies D l told.split_all s q built h = h
row_denies D l told.left s q built h = h
row_denies D l told.right s q built h = h
row_denies D l (told.exists e) s q built h = h
row_denies D l told.unfold_goal s q built h = h
row_denies D l (told.assert e) s q built h = h
row_denies D l (told.clear Hs) s q built h = h
row_denies D l (told.rename H x) s q built h = h
row_denies D l (told.permute ns x) s q built h = h

pub made_by_row : (l : Label) (c : ProofCommand) (w v : World) (p q : Held) → HasRow c → IsApplied l c w p v q → IsMade l c w p v q
made_by_row l c w v p q built applied s rest e =
    let a = applied s rest e in
    (a.0, row_makes (declarations_of w) l c s a.0 built a.1, a.2)

pub denied_by_row : (l : Label) (c : ProofCommand) (w : World) (p : Held) (f : ProofCommandFault) (r : Refusal) → HasRow c → IsRefused l c w p f → TellsOf f r → IsDenied l c w p r
denied_by_row l c w p f r built refused tells s rest e =
    let t = told_refuses (effect (declarations_of w) l c s) f r (refused s rest e) tells in
    row_denies (declarations_of w) l c s r built (record { cause = t.0; refuses = t.1; is = t.2 })

-- By searching

pub made_by_search : (l : Label) (n : ℕ) (w v : World) (p q : Held) → IsClosed w p n v q → IsMade l (told.search n) w p v q
made_by_search l n w v p q closed s rest e = let c = closed s rest e in ([], (c.0, refl), c.1)

denied_by_search : (l : Label) (n : ℕ) (w : World) (p : Held) (o : Outcome) (r : Refusal) → refusal_of o ≡ Some r → FirstComesTo w p n o → IsDenied l (told.search n) w p r
denied_by_search l n w p o r is comes s rest e = (o, comes s rest e, is)

pub denied_not_found : (l : Label) (n : ℕ) (w : World) (p : Held) → IsNotFound w p n → IsDenied l (told.search n) w p Told.NotFound
denied_not_found l n w p = denied_by_search l n w p not_found Told.NotFound refl

pub denied_not_pattern : (l : Label) (n : ℕ) (w : World) (p : Held) (number : ℕ) → IsOutside w p n number → IsDenied l (told.search n) w p (Told.NotPattern number)
denied_not_pattern l n w p number outside = denied_by_search l n w p (not_pattern outside.0) (Told.NotPattern number) (ap (λ k. Some (Told.NotPattern k)) (sym outside.1)) outside.2

-- a theorem adds no clause of the program
theorem_adds_none : (v u : World) (x : List ℕ) (F : Read) (js : List ℕ) → declarations_of u ≡ declarations_of v ++ a_theorem x F js ∷ [] → AddsNone v u
theorem_adds_none v u x F js more = subst (AddsNoClause (declarations_of v)) (sym more) (adds_behind (declarations_of v) (a_theorem x F js ∷ []) refl)

-- A world that has types, terms and declarations more, if any

pub has_more : (w v : World) (p q : Held) → Advances w p v q → HasMore w v
has_more w v p q f = record {
  types = f.grows.types;
  marks = f.grows.marks;
  additions = f.grows.additions;
}

-- what holds of a value, where it is there
pub at_some : {A : Type 0} (P : A → Type 0) (o : Option A) (x : A) → o ≡ Some x → IfSome o P → P x
at_some P o x e holds = subst (λ p. IfSome p P) e holds

-- a proof that isn't closed
pub still_open : (b : Bool) → b ≡ true → b ≡ false → ⊥
still_open b is not_so = let clash : true ≡ false = sym is ∙ not_so in cc

-- what holds of each answer
pub on_answer : {T E : Type 0} {P : T → Type 0} (r : Result T E) → ((x : T) → P x) → IfOk r P
on_answer (Ok x) p = p x
on_answer (Err e) p = tt

-- what holds, holds where there is an error
pub on_error : {T E P : Type 0} (r : Result T E) → P → OnErr r P
on_error (Ok x) p = tt
on_error (Err e) p = p

-- An attempt

module _ (w v : World) (a : Attempt) (q : Held) (is : IsTried w a) (f : Advances w a.proof v q) where
  abbrev pub with_proof : Attempt
  with_proof = record { name = a.name; formula = a.formula; proof = q }

  pub stayed : history_of v q ≡ history_of w a.proof → IsUnchanged w a v with_proof
  stayed same = record { grows = f.grows; declared = f.declared; name = refl; formula = refl; proof = nothing_left w v a.proof q f same }

  pub went_on : (l : Label) (c : ProofCommand) → IsMade l c w a.proof v q → OwesFor c w a.proof v q → goals_of v q ≢ [] → GoesOn l c w a v with_proof
  went_on l c made owes left = record { made = made; advances = f; owes = owes; name = refl; formula = refl; goals = left }

  -- what the theorem states is still a sentence of a new name

  pub still_held : Holds v a.formula
  still_held = f.grows.ids a.formula is.held

  pub still_sentence : IsSentence (signature_in (declarations_of v)) (read v a.formula)
  still_sentence =
      subst (λ D. IsSentence (signature_in D) (read v a.formula)) (sym f.declared)
      (subst (IsSentence (signature_in (declarations_of w))) (sym (f.grows.readings a.formula is.held)) is.sentence)

  pub still_new : theorem_in (declarations_of v) a.name ≡ None
  still_new = ap (λ D. theorem_in D a.name) f.declared ∙ is.new_name

  -- the places that it assumes, as the last world has them
  abbrev places : List ℕ
  places = assumed_by (declarations_of v) (history_of v q).tree

  pub completed : (u : World) (l : Label) (c : ProofCommand) (r : Reply) → IsMade l c w a.proof v q → OwesFor c w a.proof v q → goals_of v q ≡ [] → Grows v u
      → declarations_of u ≡ declarations_of v ++ a_theorem a.name (read v a.formula) places ∷ [] → reply_of u r ≡ done a.name (names_at (declarations_of u) places) → IsCompleted l c w a u with_proof r
  completed u l c r made owes closed grows more replied =
      let F = f.grows.readings a.formula is.held in
      let h = same_history v u grows q f.proof in
      let same : places ≡ assumed_by (declarations_of w) (history_of u q).tree =
      ap (λ D. assumed_by D (history_of v q).tree) f.declared ∙ ap (λ (k : History). assumed_by (declarations_of w) k.tree) (sym h) in
      record {
        made = λ s rest e. let m = made s rest e in (m.0, m.1, ap (λ (k : History). open_goals k.tree) h ∙ m.2);
        grows = grows_on w v u f.grows grows;
        declared = more ∙ ap (λ D. D ++ a_theorem a.name (read v a.formula) places ∷ []) f.declared ∙ ap (λ G. declarations_of w ++ a_theorem a.name G places ∷ []) F
            ∙ ap (λ js. declarations_of w ++ a_theorem a.name (read w a.formula) js ∷ []) same;
        owes = λ s rest e. subst (λ (k : History). OwesJust (debts_at s c) (history_of w a.proof).tree k.tree) (sym h) (owes s rest e);
        name = refl;
        formula = refl;
        beyond = f.beyond;
        proof = outlived_proof v u grows (theorem_adds_none v u a.name (read v a.formula) places more) q f.proof;
        derives =
            subst (λ (k : History). IsTreeOf (declarations_of w) (read w a.formula) k.tree) (sym h)
            (record {
              sentence = is.sentence;
              valid = subst (λ D. Valid D (history_of v q).tree) f.declared f.proof.valid;
              closed = closed;
              derives = f.above.rooted ∙ is.begins;
            });
        replied = replied ∙ ap (λ js. done a.name (names_at (declarations_of u) js)) same;
      }

-- a refused command: the world is cut back, and the proof is the same
pub refused_so : (l : Label) (c : ProofCommand) (w u : World) (a : Attempt) (q : Held) (r : Refusal) → IsWorld w → IsDenied l c w a.proof r → IsRestored w u → q ≡ a.proof
    → IsRefusedSo l c w a u (record { name = a.name; formula = a.formula; proof = q }) r
refused_so l c w u a q r world denied restored same = record {
  denied = denied;
  unchanged = record {
    grows = restored_grows w u world restored;
    declared = restored_declares w u restored;
    name = refl;
    formula = refl;
    proof = same;
  };
  restored = restored;
}
