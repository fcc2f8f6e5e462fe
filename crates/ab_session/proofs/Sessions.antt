-- What stays true of a session where its world grows.
use Rattle.std.specs.Prelude.{slice_get, IfSome}
use Rattle.std.proofs.Common.{◌≡◌, ◌⊎◌, inl, inr, true, ℕ, zero, suc, ◌+◌, ◌<◌, List, [], ◌∷◌, ◌++◌, length, map, Option, Some, None, option_map, refl, sym, ◌∙◌, ap, subst, append-nil, length-append}
use Rattle.ab_term.specs.Types.{Ty}
use Rattle.ab_term.specs.Constants.{Constant}
use Rattle.ab_term.specs.Terms.{Read}
use Rattle.ab_grammar.specs.CommandTrees.{Command}
use Rattle.ab_formulas.specs.Declarations.{Declarations, Block, a_kind, a_constant, a_block, a_theorem, signature_in, theorem_in, theorems_in}
use Rattle.ab_formulas.specs.Formulas.{IsSentence}
use Rattle.ab_logic.specs.WorldGrowth.{Grows}
use Rattle.ab_logic.specs.Worlds.{read, first_declarations, declarations_of, defined, IsWorld}
use Rattle.ab_logic.specs.declared.world.World.{World}
use Rattle.ab_formulas.proofs.Declaring.{theorems_in-append}
use Rattle.ab_formulas.proofs.KernelSplits.{within}
use Rattle.ab_theory.specs.Derivations.{History, root, proves, open_goals, IsTreeOf}
use Rattle.ab_theory.specs.Assumptions.{assumed_by}
use Rattle.ab_proofcmd.specs.ab_hypothesis.specs.ab_steps.specs.ab_kernel.specs.Layout.{Held, history_of, IsProof, goals_of}
use Rattle.ab_proofcmd.specs.ab_hypothesis.specs.ab_steps.specs.ab_kernel.proofs.Later.{same_history, same_read, still_holds, still_proof}
use Rattle.ab_formulas.specs.NamedGoals.{named}
use Rattle.ab_states.specs.ab_specification.specs.ab_declare.specs.DeclarationCommands.{Declares, new_kinds, new_constants, new_predicates}
use Rattle.ab_states.specs.ab_specification.specs.ab_declare.specs.DefinitionCommands.{predicate_of, block_with}
use Rattle.ab_states.specs.DerivedTheorems.{IsDerived, AreDerived}
use Rattle.ab_states.proofs.Assumed.{derived_on, derived_last}
use Rattle.ab_states.specs.State.{empty}
use Rattle.ab_states.specs.Replay as replay
use Rattle.ab_states.specs.Replay.{IsReplayed}
use Rattle.ab_session.specs.declared.attempt.Attempt.{Attempt}
use Rattle.ab_session.specs.Contents.{Contents, attempt_of, entries_of, state_of}
use Rattle.ab_session.specs.Sessions.{IsTried, IsProofOf, AreProofs, IsSound}
use Rattle.ab_session.specs.Origins.{begun, IsSession}

-- a proof stays that of its theorem in each later world
later_proof : (w v : World) (place : ℕ) (p : Held) → Grows w v → IsProofOf w place p → IsProofOf v place p
later_proof w v place p grows is = record {
  held = still_holds w v grows p is.held;
  derived =
      subst (λ (h : History). IsDerived (declarations_of v) place h.tree) (sym (same_read w v grows p is.held))
      (subst (λ D. IsDerived D place (history_of w p).tree) (sym grows.declarations.1) (derived_on (declarations_of w) grows.declarations.0 place (history_of w p).tree is.derived));
}

-- no theorem more
pub later_proofs : (w v : World) (ps : List Held) → Grows w v → length (theorems_in (declarations_of v)) ≡ length (theorems_in (declarations_of w)) → AreProofs w ps → AreProofs v ps
later_proofs w v ps grows same are = record {
  counted = are.counted ∙ sym same;
  each = λ place p e. later_proof w v place p grows (are.each place p e);
}

pub same_proofs : (w v : World) (ps : List Held) → Grows w v → declarations_of v ≡ declarations_of w → AreProofs w ps → AreProofs v ps
same_proofs w v ps grows same are = later_proofs w v ps grows (ap (λ D. length (theorems_in D)) same) are

pub pushed : {X : Type 0} (xs : List X) (y x : X) (place : ℕ) → slice_get (xs ++ y ∷ []) place ≡ Some x → (slice_get xs place ≡ Some x) ⊎ ((place ≡ length xs) × (x ≡ y))
pushed [] y x zero e = let same : y ≡ x = cc in inr (refl, sym same)
pushed [] y x (suc n) e = cc
pushed (z ∷ xs) y x zero e = inl e
pushed (z ∷ xs) y x (suc n) e = elim (pushed xs y x n e) [ inl f ↦ inl f | inr p ↦ inr (ap suc p.0, p.1) ]

pub one_more : (D : Declarations) (x : List ℕ) (F : Read) (js : List ℕ) → length (theorems_in (D ++ a_theorem x F js ∷ [])) ≡ length (theorems_in D) + 1
one_more D x F js = ap length (theorems_in-append D (a_theorem x F js ∷ [])) ∙ length-append (theorems_in D) ((x, F) ∷ [])

-- a theorem more, with its proof
pub proved_proofs : (w v : World) (ps : List Held) (p : Held) (x : List ℕ) (F : Read) (js : List ℕ) → Grows w v → declarations_of v ≡ declarations_of w ++ a_theorem x F js ∷ []
    → IsProof v p → IsTreeOf (declarations_of w) F (history_of v p).tree → js ≡ assumed_by (declarations_of w) (history_of v p).tree → AreProofs w ps → AreProofs v (ps ++ p ∷ [])
proved_proofs w v ps p x F js grows more proof derives assumes are = record {
  counted = length-append ps (p ∷ []) ∙ ap (λ n. n + 1) are.counted ∙ sym (ap (λ D. length (theorems_in D)) more ∙ one_more (declarations_of w) x F js);
  each = λ place q e.
      elim (pushed ps p q place e) [
        | inl f ↦ later_proof w v place q grows (are.each place q f)
        | inr l ↦ subst (λ r. IsProofOf v place r) (sym l.1) (record {
          held = proof.held;
          derived =
              subst (λ D. IsDerived D place (history_of v p).tree) (sym more)
              (derived_last (declarations_of w) x F js (history_of v p).tree place derives assumes (sym (l.0 ∙ are.counted)));
        })
      ];
}

-- so each theorem has a derivation
pub proofs_derive : (w : World) (ps : List Held) → AreProofs w ps → AreDerived (declarations_of w)
proofs_derive w ps are place low =
    let p = within ps place (subst (λ n. place < n) (sym are.counted) low) in
    ((history_of w p.0).tree, (are.each place p.0 p.1).derived)

-- what is being tried, in a world that reads as the first and declares the same

pub same_tried : (w v : World) (a : Attempt) → Grows w v → declarations_of v ≡ declarations_of w → IsTried w a → IsTried v a
same_tried w v a grows same is =
    let h = same_history w v grows a.proof is.proof in
    let F = grows.readings a.formula is.held in
    record {
      proof = still_proof w v grows same a.proof is.proof;
      begins = ap (λ (k : History). root k.tree) h ∙ is.begins ∙ ap (λ G. proves G 0) (sym F);
      held = grows.ids a.formula is.held;
      sentence = subst (λ D. IsSentence (signature_in D) (read v a.formula)) (sym same) (subst (IsSentence (signature_in (declarations_of w))) (sym F) is.sentence);
      new_name = ap (λ D. theorem_in D a.name) same ∙ is.new_name;
      goals = λ none. is.goals (sym (ap (λ (k : History). open_goals k.tree) h) ∙ none);
    }

pub same_attempt : (w v : World) (a : Attempt) → Grows w v → declarations_of v ≡ declarations_of w → IsTried w a → attempt_of v a ≡ attempt_of w a
same_attempt w v a grows same is =
    ap (λ F. record { name = a.name; formula = F; goals = map named (goals_of v a.proof); assumed = assumed_by (declarations_of v) (history_of v a.proof).tree }) (grows.readings a.formula is.held)
    ∙ ap (λ (k : History). record { name = a.name; formula = read w a.formula; goals = map named (open_goals k.tree); assumed = assumed_by (declarations_of v) k.tree }) (same_history w v grows a.proof is.proof)
    ∙ ap (λ D. record { name = a.name; formula = read w a.formula; goals = map named (goals_of w a.proof); assumed = assumed_by D (history_of w a.proof).tree }) same

same_if : (w v : World) (o : Option Attempt) → Grows w v → declarations_of v ≡ declarations_of w → IfSome o (IsTried w) → IfSome o (IsTried v)
same_if w v None grows same is = tt
same_if w v (Some a) grows same is = same_tried w v a grows same is

same_attempts : (w v : World) (o : Option Attempt) → Grows w v → declarations_of v ≡ declarations_of w → IfSome o (IsTried w) → option_map (attempt_of v) o ≡ option_map (attempt_of w) o
same_attempts w v None grows same is = refl
same_attempts w v (Some a) grows same is = ap (λ b. Some b) (same_attempt w v a grows same is)

-- the session in another world
abbrev pub in_world : World → Contents → Contents
in_world v s = record { world = v; proofs = s.proofs; attempt = s.attempt; all_subgoals = s.all_subgoals; past = s.past }

pub same_session : (s : Contents) (v : World) → Grows s.world v → declarations_of v ≡ declarations_of s.world → IsSound s → IsSound (in_world v s)
same_session s v grows same is = record {
  world = grows.world;
  proofs = same_proofs s.world v s.proofs grows same is.proofs;
  attempt = same_if s.world v s.attempt grows same is.attempt;
}

pub same_state : (s : Contents) (v : World) → Grows s.world v → declarations_of v ≡ declarations_of s.world → IsSound s → state_of (in_world v s) ≡ state_of s
same_state s v grows same is =
    ap (λ D. record { declarations = D; attempt = option_map (attempt_of v) s.attempt; all_subgoals = s.all_subgoals; kept = entries_of s.past }) same
    ∙ ap (λ a. record { declarations = declarations_of s.world; attempt = a; all_subgoals = s.all_subgoals; kept = entries_of s.past }) (same_attempts s.world v s.attempt grows same is.attempt)

-- kinds, constants and definitions are no theorems

kinds_no_theorem : (xs : List (List ℕ)) → theorems_in (map a_kind xs) ≡ []
kinds_no_theorem [] = refl
kinds_no_theorem (x ∷ xs) = kinds_no_theorem xs

constants_no_theorem : (A : Ty) (xs : List (List ℕ)) → theorems_in (map (λ x. a_constant x A) xs) ≡ []
constants_no_theorem A [] = refl
constants_no_theorem A (x ∷ xs) = constants_no_theorem A xs

definition_no_theorem : (ps : List Constant) (b : Block) → theorems_in (map predicate_of ps ++ a_block b ∷ []) ≡ []
definition_no_theorem [] b = refl
definition_no_theorem (p ∷ ps) b = definition_no_theorem ps b

pub no_theorem_more : (D : Declarations) (c : Command) (more : Declarations) → Declares D c more → theorems_in more ≡ []
no_theorem_more D _ _ (new_kinds {xs = xs} n) = kinds_no_theorem xs
no_theorem_more D _ _ (new_constants {xs = xs} {A = A} n t d) = constants_no_theorem A xs
no_theorem_more D _ _ (new_predicates {inductive = inductive} d) =
    ap theorems_in d.is ∙ definition_no_theorem d.predicates (defined (block_with inductive d.predicates d.clauses))

pub as_many : (D : Declarations) (c : Command) (more E : Declarations) → Declares D c more → E ≡ D ++ more → length (theorems_in E) ≡ length (theorems_in D)
as_many D c more E declares e =
    ap (λ C. length (theorems_in C)) e ∙ ap length (theorems_in-append D more)
    ∙ ap (λ ts. length (theorems_in D ++ ts)) (no_theorem_more D c more declares) ∙ ap length (append-nil (theorems_in D))

-- a session before its first command

no_proofs : (w : World) → theorems_in (declarations_of w) ≡ [] → AreProofs w []
no_proofs w none = record { counted = sym (ap length none); each = λ place p e. absurd (cc) }

new_sound : (w : World) → IsWorld w → declarations_of w ≡ first_declarations → IsSound (record { world = w; proofs = []; attempt = None; all_subgoals = true; past = [] })
new_sound w world says = record {
  world = world;
  proofs = no_proofs w (ap theorems_in says);
  attempt = tt;
}

pub new_state : (w : World) → declarations_of w ≡ first_declarations → state_of (record { world = w; proofs = []; attempt = None; all_subgoals = true; past = [] }) ≡ empty
new_state w says = ap (λ D. record { declarations = D; attempt = None; all_subgoals = true; kept = [] }) says

pub new_session : (w : World) → IsWorld w → declarations_of w ≡ first_declarations → IsSession (record { world = w; proofs = []; attempt = None; all_subgoals = true; past = [] })
new_session w world says = record {
  sound = new_sound w world says;
  replayed = subst IsReplayed (sym (new_state w says)) replay.none;
  remembers = begun refl refl;
}
