-- A state has its derivations behind each command that goes forward, and what is told of theorems is true.
use Rattle.std.specs.Prelude.{is_some}
use Rattle.std.proofs.Common.{◌≡◌, inl, inr, ℕ, suc, List, [], ◌∷◌, ◌++◌, map, length, Option, Some, None, refl, sym, ◌∙◌, ap, subst, arith}
use Rattle.ab_grammar.specs.CommandTrees.{ProofCommand, search}
use Rattle.ab_formulas.specs.Declarations.{Declarations, a_theorem, theorem_in, theorems_in, names_at}
use Rattle.ab_formulas.specs.NamedGoals.{Goal, named}
use Rattle.ab_formulas.specs.NewNames.{Label}
use Rattle.ab_formulas.specs.Sequents.{Sequent, IsSequent}
use Rattle.ab_formulas.proofs.TheoremPlaces.{theorems_more, theorem_new, assumed_new}
use Rattle.ab_infer.proofs.FittingMeanings.{fits}
use Rattle.ab_infer.proofs.MeaningNumbers.{same_name}
use Rattle.ab_theory.specs.Derivations.{Derivation}
use Rattle.ab_effects.specs.Debts.{debts_at}
use Rattle.ab_effects.specs.ProofCommands.{given_label}
use Rattle.ab_search_trees.specs.Outcomes.{ComesTo, closed}
use Rattle.ab_states.specs.DerivedTheorems.{IsDerived, AreDerived, IsProved}
use Rattle.ab_states.specs.State.{Attempt, State, Entry}
use Rattle.ab_states.specs.Reply.{Reply, done}
use Rattle.ab_states.specs.ProofCommandEffects.{Makes}
use Rattle.ab_states.specs.ForwardEffects as effect
use Rattle.ab_states.specs.ForwardEffects.{Faces, GoesForward, assumed_after, concluding}
use Rattle.ab_states.proofs.Assumed.{derived_on, are_proved}
use Rattle.ab_determinism.specs.Sound as session
use Rattle.ab_determinism.specs.Sound.{IsSound}
use Rattle.ab_determinism.proofs.Sound.{has_member, has_lists, sound_forward}
use Rattle.ab_derived_goals.specs.Derived.{AreSound, IsDerivedAlike}
use Rattle.ab_command_derivations.specs.OpenProofs.{HasProof, IsProofOf}
use Rattle.ab_command_derivations.specs.Readings.{ReadingsFit}
use Rattle.ab_command_derivations.proofs.Effects.{derived}
use Rattle.ab_command_derivations.proofs.Proofs.{begun, ended, goes_on}
use Rattle.ab_state_derivations.specs.DerivedStates.{HasItsProof, HasDerivations, SearchIsDerived, EndsWith, IsTrueOf}
use Rattle.ab_search_sessions.proofs.Theorems.{none_declared, none_by_items}
use Rattle.ab_state_derivations.proofs.Declaring.{derived_still, declared_outside, outside, below_or}

pub sound_for : (D : Declarations) → session.AreSound D → AreSound D
sound_for D sound = record { sentences = sound.sentences; definitions = sound.definitions; programs = sound.programs; member = has_member D sound }

readings_fit : (D : Declarations) → session.AreSound D → ReadingsFit D
readings_fit D sound s e A t one m = fits D s (has_lists D sound) e A t m one

-- what a proof command makes of a goal is derived
made : (D : Declarations) → session.AreSound D → (l : Label) (t : Sequent) → IsSequent D t → (c : ProofCommand) (ps : List Sequent)
    → ((depth : ℕ) → c ≡ search depth → ComesTo D depth t closed → IsDerivedAlike D t [] []) → Makes D l c t ps → IsDerivedAlike D t ps (debts_at t c)
made D sound l t is (search depth) ps by_search h = subst (λ qs. IsDerivedAlike D t qs []) (sym h.1) (by_search depth refl h.0)
made D sound l t is c ps by_search h = derived D (sound_for D sound) (readings_fit D sound) same_name l t is c ps h

-- THE PROOF GOES ON
module _ (s : State) (sound : IsSound s) (has : HasDerivations s) (bytes : List ℕ) (searched : SearchIsDerived s bytes) (l : Option (List ℕ)) (c : ProofCommand) (a : Attempt) (t : Sequent) (gs : List Goal) (ps : List Sequent)
    (f : Faces s bytes l c a t gs) (m : Makes s.declarations (given_label l) c t ps) where
  abbrev D : Declarations
  D = s.declarations

  abbrev js : List ℕ
  js = assumed_after s a t c

  its : HasItsProof D (Some a)
  its = subst (HasItsProof D) f.attempt has.attempt

  pub new_name : theorem_in D a.name ≡ None
  new_name = its.0

  by_search : (depth : ℕ) → c ≡ search depth → ComesTo D depth t closed → IsDerivedAlike D t [] []
  by_search depth e h = searched l depth a t gs (subst (λ d. Faces s bytes l d a t gs) e f) h

  pub proof_on : HasProof D a.formula (map named ps ++ gs) js
  proof_on =
      let before : HasProof D a.formula (f.current ∷ gs) a.assumed = subst (λ hs. HasProof D a.formula hs a.assumed) f.goals its.1 in
      goes_on D (sound_for D sound.declarations) a.formula f.current gs a.assumed t ps (debts_at t c) before f.numbered (made D sound.declarations (given_label l) t f.numbered.sequent c ps by_search m)

-- A THEOREM IS CONCLUDED
module _ (D : Declarations) (a : Attempt) (js : List ℕ) (are : AreDerived D) (proof : HasProof D a.formula [] js) where
  abbrev E : Declarations
  E = D ++ a_theorem a.name a.formula js ∷ []

  abbrev at_last : (d : Derivation) → IsProofOf D a.formula [] js d → IsDerived E (length (theorems_in D)) d
  at_last d p = record { name = a.name; formula = a.formula; assumed = js; before = D; behind = []; declared = refl; place_is = refl; derives = ended D a.formula js d p; assumes = p.assumes }

  size : length (theorems_in E) ≡ suc (length (theorems_in D))
  size = theorems_more D a.name a.formula js

  pub all_derived : AreDerived E
  all_derived place low =
      elim (below_or place (length (theorems_in D))) [
        | inl l ↦ (let (d, is) = are place l in (d, derived_on D (a_theorem a.name a.formula js ∷ []) place d is))
        | inr l ↦ (let here : length (theorems_in D) ≡ place = omega (arith, low, l, size) in
            subst (λ i. (d : Derivation) × IsDerived E i d) here (proof.0, at_last proof.0 proof.1))
      ]

  pub ends_with : EndsWith E a.name
  ends_with = record { place = length (theorems_in D); derivation = proof.0; derived = at_last proof.0 proof.1; last = size; named = refl }

  pub proved_where_nothing : theorem_in D a.name ≡ None → js ≡ [] → IsProved E a.name
  proved_where_nothing new none =
      are_proved E a.name all_derived (ap is_some (theorem_new D [] a.name a.formula js new)) (assumed_new D [] a.name a.formula js new ∙ none)

no_names : (F : Declarations) (js : List ℕ) → names_at F js ≡ [] → js ≡ []
no_names F [] e = refl
no_names F (j ∷ js) e = absurd (cc)

-- what is told of it is true
told : (t : State) (x : List ℕ) (ys : List (List ℕ)) → EndsWith t.declarations x → (ys ≡ [] → IsProved t.declarations x) → IsTrueOf t (done x ys)
told t x [] last proved = (last, proved refl)
told t x (y ∷ ys) last proved = last

-- BEHIND A COMMAND THAT GOES FORWARD
pub forward : {s t : State} {e : Entry} {r : Reply} → GoesForward s e r t → IsSound s → SearchIsDerived s e.bytes → HasDerivations s → HasDerivations t
forward (effect.unread c f) sound searched has = has
forward (effect.declined c r k d) sound searched has = has
forward {s = s} (effect.declared {bytes = b} c more k d) sound searched has = record {
  theorems = derived_still s.declarations more (none_declared d) has.theorems;
  attempt = subst (HasItsProof (s.declarations ++ more)) (sym (outside s b c (declared_outside d) k)) tt;
}
forward {s = s} (effect.specified {bytes = b} x files more k n d) sound searched has = record {
  theorems = derived_still s.declarations more (none_by_items d) has.theorems;
  attempt = subst (HasItsProof (s.declarations ++ more)) (sym (outside s b _ refl k)) tt;
}
forward (effect.item_declined x files v k n d) sound searched has = has
forward (effect.specified_twice x k n) sound searched has = has
forward {s = s} (effect.stated x e F k n d) sound searched has = record {
  theorems = has.theorems;
  attempt = (n, begun s.declarations F (sound_forward (effect.stated x e F k n d) sound).attempt);
}
forward (effect.showed x F k e) sound searched has = has
forward (effect.ended k) sound searched has = has
forward (effect.switched on k) sound searched has = record { theorems = has.theorems; attempt = has.attempt }
forward (effect.given_up k) sound searched has = record { theorems = has.theorems; attempt = tt }
forward (effect.denied l c a q gs v f d) sound searched has = has
forward {s = s} {e = e} (effect.led {bytes = b} l c a q gs ps h hs f m is) sound searched has = record {
  theorems = has.theorems;
  attempt = (new_name s sound has b searched l c a q gs ps f m, subst (λ ks. HasProof s.declarations a.formula ks (assumed_after s a q c)) is (proof_on s sound has b searched l c a q gs ps f m));
}
forward {s = s} (effect.proved {bytes = b} l c a q gs ps f m is) sound searched has = record {
  theorems = all_derived s.declarations a (assumed_after s a q c) has.theorems (subst (λ ks. HasProof s.declarations a.formula ks (assumed_after s a q c)) is (proof_on s sound has b searched l c a q gs ps f m));
  attempt = tt;
}

pub true_of : {s t : State} {e : Entry} {r : Reply} → GoesForward s e r t → IsSound s → SearchIsDerived s e.bytes → HasDerivations s → IsTrueOf t r
true_of (effect.unread c f) sound searched has = tt
true_of (effect.declined c r k d) sound searched has = tt
true_of (effect.declared c more k d) sound searched has = tt
true_of (effect.specified x files more k n d) sound searched has = tt
true_of (effect.item_declined x files v k n d) sound searched has = tt
true_of (effect.specified_twice x k n) sound searched has = tt
true_of (effect.stated x e F k n d) sound searched has = tt
true_of (effect.showed x F k e) sound searched has = tt
true_of (effect.ended k) sound searched has = tt
true_of (effect.switched on k) sound searched has = tt
true_of (effect.given_up k) sound searched has = tt
true_of (effect.denied l c a q gs v f d) sound searched has = tt
true_of (effect.led l c a q gs ps h hs f m is) sound searched has = tt
true_of {s = s} {t = t} (effect.proved {bytes = b} l c a q gs ps f m is) sound searched has =
    let D = s.declarations in
    let js = assumed_after s a q c in
    let proof : HasProof D a.formula [] js = subst (λ ks. HasProof D a.formula ks js) is (proof_on s sound has b searched l c a q gs ps f m) in
    told t a.name (names_at (concluding js a s).declarations js) (ends_with D a js has.theorems proof)
    (λ none. proved_where_nothing D a js has.theorems proof (new_name s sound has b searched l c a q gs ps f m) (no_names (concluding js a s).declarations js none))
