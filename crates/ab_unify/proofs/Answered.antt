-- What an answer says of its problem: the laws of the rules, on shared terms.
use Rattle.std.proofs.Common.{◌≡◌, ◌↔◌, ℕ, ◌+◌, ◌≤◌, List, [], ◌∷◌, codes, refl, sym, ◌∙◌, ap, subst}
use Rattle.std.specs.Prelude.{All}
use Rattle.std.proofs.lemmas.List.Elements.{All-nil, All-cons, All-head, All-tail}
use Rattle.ab_term.specs.Types.{Ty}
use Rattle.ab_term.specs.Translation.{forget, EqualPastHints}
use Rattle.ab_term.specs.Variables.{Substitution, image, IsTyped}
use Rattle.ab_term.specs.Sameness.{same_number}
use Rattle.ab_term.proofs.Compositions.{image-composition}
use Rattle.ab_norm.specs.ab_types.specs.Entries.{Table, signature}
use Rattle.ab_norm.specs.ab_store.specs.declared.node.TermId.{TermId}
use Rattle.ab_norm.specs.ab_store.specs.declared.node.CellId.{CellId}
use Rattle.ab_norm.specs.ab_store.specs.declared.node.Equation.{Equation}
use Rattle.ab_norm.specs.ab_store.specs.Trees.{Contents}
use Rattle.ab_norm.specs.ab_store.specs.Reading.{reading}
use Rattle.ab_norm.specs.ab_store.specs.Naming.{IsTypedBy, IsTerm}
use Rattle.ab_norm.specs.ab_store.proofs.Putting.{read_typed}
use Rattle.ab_patterns.specs.ab_unifiers.specs.Replacements.{Cell}
use Rattle.ab_patterns.specs.ab_unifiers.specs.Unification as rules
use Rattle.ab_patterns.specs.ab_unifiers.specs.Unification.{Solves}
use Rattle.ab_patterns.specs.ab_unifiers.specs.Unifiers.{AreTyped, AreKnown, AreOver, Unifies, restricted, IsUnifier, IsMostGeneral}
use Rattle.ab_patterns.specs.ab_unifiers.proofs.Unique.{unique}
use Rattle.ab_patterns.specs.ab_unifiers.proofs.Problems.{answer_typed, answer_unifies}
use Rattle.ab_patterns.specs.ab_unifiers.proofs.Given.{apart_none, most_general}
use Rattle.ab_patterns.specs.ab_unifiers.proofs.Restricted.{restricted_general}
use Rattle.ab_unify.specs.Problem.{cells_read, variables_read, equations_from, equations_read, problem}
use Rattle.ab_unify.specs.StoreChanges.{IsFree}
use Rattle.ab_unify.proofs.RigidSolutions.{known_cells}
use Rattle.ab_unify.specs.declared.answers.Solved.{Solved}
use Rattle.ab_unify.specs.declared.answers.Solved.TheVariants.{Unified, Apart, Stuck}
use Rattle.ab_unify.specs.UnifyAnswers.{IsTypedPair, HasSolution, IsUnified, AreLeft}
use Rattle.ab_unify.specs.RuleCounts.{Takes}
use Rattle.ab_patterns.specs.declared.equation.Numbered.{Numbered}
use Rattle.ab_unify.specs.States.{numbered_from, state_of, answer_of, verdict_of, Runs}
use Rattle.ab_unify.proofs.Numbered.{numbered_read}
use Rattle.ab_unify.proofs.Over.{reads_over}

module _ (types : Table) (store : Contents) (typed : IsTypedBy types store) where
  read_all_typed : (k : ℕ) (es : List Equation) → All (IsTypedPair types store) es → AreTyped (signature types) (equations_from types store k es)
  read_all_typed k [] all = tt
  read_all_typed k (e ∷ es) all =
      let d = All-head (IsTypedPair types store) e es all in
      ((d.0, d.1, read_typed types store typed d.0 e.left d.1 d.2.1, read_typed types store typed d.0 e.right d.1 d.3.1), read_all_typed (k + 1) es (All-tail (IsTypedPair types store) e es all))

  read_all_over : (k : ℕ) (es : List Equation) → All (IsTypedPair types store) es → AreOver (cells_read types store) (equations_from types store k es)
  read_all_over k [] all = tt
  read_all_over k (e ∷ es) all =
      let d = All-head (IsTypedPair types store) e es all in
      (reads_over types store typed e.left d.2.0, reads_over types store typed e.right d.3.0, read_all_over (k + 1) es (All-tail (IsTypedPair types store) e es all))

-- where a run started and ended
module _ (types : Table) (store : Contents) (F : List CellId) (es : List Equation) (more : Table) (now : Contents) (left : List CellId) where
  pub same_problem : state_of types store (numbered_from 0 es) F [] ≡ problem types store es F
  same_problem = ap (λ l. record { equations = l; cells = cells_read types store; flexible = variables_read types store F; pairs = [] }) (numbered_read types store 0 es)

  module _ (s : Solved) (run : Runs types store F (numbered_from 0 es) more now left (verdict_of s)) where
    abbrev answer : rules.Answer (List ℕ)
    answer = answer_of (verdict_of s) (state_of more now [] left run.pairs)

    pub solves_problem : Solves (codes "x") (problem types store es F) answer
    solves_problem = subst (λ p. Solves (codes "x") p answer) same_problem run.solves

    pub only_answer : (a : rules.Answer (List ℕ)) → Solves (codes "x") (problem types store es F) a → answer ≡ a
    only_answer a p = unique (codes "x") solves_problem p

  pub exactly_apart : (s : Solved) → Runs types store F (numbered_from 0 es) more now left (verdict_of s) → (s ≡ Apart) ↔ Solves (codes "x") (problem types store es F) rules.apart
  exactly_apart (Unified made) run = (λ e. absurd (cc), λ p. absurd (let same = only_answer (Unified made) run rules.apart p in cc))
  exactly_apart Apart run = (λ e. solves_problem Apart run, λ p. refl)
  exactly_apart (Stuck place) run = (λ e. absurd (cc), λ p. absurd (let same = only_answer (Stuck place) run rules.apart p in cc))

  pub exactly_stuck : (s : Solved) → Runs types store F (numbered_from 0 es) more now left (verdict_of s) → (place : ℕ) → (s ≡ Stuck place) ↔ Solves (codes "x") (problem types store es F) (rules.stuck place)
  exactly_stuck (Unified made) run place = (λ e. absurd (cc), λ p. absurd (let same = only_answer (Unified made) run (rules.stuck place) p in cc))
  exactly_stuck Apart run place = (λ e. absurd (cc), λ p. absurd (let same = only_answer Apart run (rules.stuck place) p in cc))
  exactly_stuck (Stuck n) run place = (
    λ e. (let same : n ≡ place = cc in subst (λ m. Solves (codes "x") (problem types store es F) (rules.stuck m)) same (solves_problem (Stuck n) run)),
    λ p. (let both = only_answer (Stuck n) run (rules.stuck place) p in let same : n ≡ place = cc in ap Stuck same),
  )

  pub exactly_unified : (s : Solved) → Runs types store F (numbered_from 0 es) more now left (verdict_of s) → IsUnified s ↔ HasSolution (problem types store es F)
  exactly_unified (Unified made) run = (λ u. (cells_read more now, run.pairs, solves_problem (Unified made) run), λ h. tt)
  exactly_unified Apart run = (λ u. absurd u, λ h. absurd (let same = only_answer Apart run (rules.unified h.0 h.1) h.2 in cc))
  exactly_unified (Stuck place) run = (λ u. absurd u, λ h. absurd (let same = only_answer (Stuck place) run (rules.unified h.0 h.1) h.2 in cc))

  module _ (typed : IsTypedBy types store) (free : All (IsFree store) F) (terms : All (IsTypedPair types store) es) where
    abbrev cells : List (Cell (List ℕ))
    cells = cells_read types store

    known : AreKnown cells (variables_read types store F)
    known = known_cells types store F free

    pub no_unifier : Solves (codes "x") (problem types store es F) rules.apart → (u : Substitution ℕ (List ℕ)) → ¬ IsUnifier (signature types) (variables_read types store F) (equations_read types store es) u
    no_unifier p u is = apart_none (signature types) (codes "x") (equations_read types store es) cells (variables_read types store F) (read_all_typed types store typed 0 es terms) known (read_all_over types store typed 0 es terms) u is p

    pub is_general : (m : List (Cell (List ℕ))) (s : Substitution ℕ (List ℕ)) → Solves (codes "x") (problem types store es F) (rules.unified m s)
        → IsMostGeneral (signature types) cells (variables_read types store F) (equations_read types store es) (restricted (variables_read types store F) s)
    is_general m s p = restricted_general (signature types) (codes "x") (equations_read types store es) cells (variables_read types store F) (read_all_typed types store typed 0 es terms) known (read_all_over types store typed 0 es terms) m s p

    module _ (made : List CellId) (run : Runs types store F (numbered_from 0 es) more now left (verdict_of (Unified made))) where
      solved : Solves (codes "x") (problem types store es F) (rules.unified (cells_read more now) run.pairs)
      solved = solves_problem (Unified made) run

      same_answer : (m : List (Cell (List ℕ))) (s : Substitution ℕ (List ℕ)) → Solves (codes "x") (problem types store es F) (rules.unified m s) → rules.unified (cells_read more now) run.pairs ≡ rules.unified m s
      same_answer m s p = only_answer (Unified made) run (rules.unified m s) p

      pub same_cells : (m : List (Cell (List ℕ))) (s : Substitution ℕ (List ℕ)) → Solves (codes "x") (problem types store es F) (rules.unified m s) → cells_read more now ≡ m
      same_cells m s p = let both = same_answer m s p in cc

      pub reads_so : (m : List (Cell (List ℕ))) (s : Substitution ℕ (List ℕ)) → Solves (codes "x") (problem types store es F) (rules.unified m s) → (G : List Ty) (t : TermId) (A : Ty) → IsTerm types store G t A → reading more now t ≡ image same_number s (reading types store t)
      reads_so m s p G t A is =
          let both = same_answer m s p in
          let pairs : run.pairs ≡ s = cc in
          run.reached.reads G t A is ∙ ap (λ q. image same_number q (reading types store t)) pairs

      pub left_so : (m : List (Cell (List ℕ))) (s : Substitution ℕ (List ℕ)) → Solves (codes "x") (problem types store es F) (rules.unified m s) → AreLeft store F more now s
      left_so m s p = let both = same_answer m s p in let pairs : run.pairs ≡ s = cc in subst (AreLeft store F more now) pairs run.leaves

      equal_from : (k : ℕ) (fs : List Equation) → All (IsTypedPair types store) fs → Unifies run.pairs (equations_from types store k fs) → All (λ (e : Equation). EqualPastHints (reading more now e.left) (reading more now e.right)) fs
      equal_from k [] all u = All-nil (λ (e : Equation). EqualPastHints (reading more now e.left) (reading more now e.right))
      equal_from k (f ∷ fs) all u =
          let d = All-head (IsTypedPair types store) f fs all in
          All-cons (λ (e : Equation). EqualPastHints (reading more now e.left) (reading more now e.right)) f fs
          (ap forget (run.reached.reads d.0 f.left d.1 d.2) ∙ u.0 ∙ sym (ap forget (run.reached.reads d.0 f.right d.1 d.3)))
          (equal_from (k + 1) fs (All-tail (IsTypedPair types store) f fs all) u.1)

      pub sides_equal : All (λ (e : Equation). EqualPastHints (reading more now e.left) (reading more now e.right)) es
      sides_equal =
          equal_from 0 es terms
          (answer_unifies (signature types) (codes "x") (equations_read types store es) cells (variables_read types store F) (read_all_typed types store typed 0 es terms) known (cells_read more now) run.pairs solved)

      -- each unifier does what was done and then another substitution
      pub each_unifier : (u : Substitution ℕ (List ℕ)) → IsUnifier (signature types) (variables_read types store F) (equations_read types store es) u
          → (r : Substitution ℕ (List ℕ)) × IsTyped (signature types) r × ((G : List Ty) (t : TermId) (A : Ty) → IsTerm types store G t A → EqualPastHints (image same_number u (reading types store t)) (image same_number r (reading more now t)))
      each_unifier u is =
          let eqs = equations_read types store es in
          let ys = variables_read types store F in
          let d = read_all_typed types store typed 0 es terms in
          let m = most_general (signature types) (codes "x") eqs cells ys d known (read_all_over types store typed 0 es terms) u is (cells_read more now) run.pairs solved in
          let safe = answer_typed (signature types) (codes "x") eqs cells ys d known (cells_read more now) run.pairs solved in (
            m.0,
            m.1,
            λ G t A term.
                let here = read_typed types store typed G t A term.1 in
                m.2 G (reading types store t) A here (reads_over types store typed t term.0)
                ∙ ap forget (image-composition (signature types) same_number run.pairs safe m.0 m.1 here ∙ ap (image same_number m.0) (sym (run.reached.reads G t A term))),
          )

-- how many rules were carried out, from the queue that the run started with
pub counts_so : (types : Table) (store : Contents) (F : List CellId) (es : List Equation) (l : List Numbered) (f : List CellId) → l ≡ numbered_from 0 es → f ≡ F → (i k : ℕ)
    → ((n : ℕ) → Takes (codes "x") (state_of types store l f []) n → i + n ≤ k) → (n : ℕ) → Takes (codes "x") (problem types store es F) n → i + n ≤ k
counts_so types store F es l f same_list same_cells i k counts n t =
    counts n (subst (λ p. Takes (codes "x") p n) (sym (ap (λ m. state_of types store m f []) same_list ∙ ap (λ h. state_of types store (numbered_from 0 es) h []) same_cells ∙ same_problem types store F es types store F)) t)
