-- A case that arises does so with other numbers too, and as the same goal; and lists of cases split a goal alike.
use Rattle.std.proofs.Common.{◌≡◌, ℕ, ◌+◌, List, [], ◌∷◌, ◌++◌, map, length, drop, refl, sym, ◌∙◌, ap, subst, codes, append_assoc}
use Rattle.std.proofs.Math.Seq.{drop-append_seam}
use Rattle.ab_term.specs.Terms as tree
use Rattle.ab_term.specs.Translation.{translate_variable}
use Rattle.ab_term.specs.Variables.{Substitution}
use Rattle.ab_unifiers.specs.Replacements.{Cell}
use Rattle.ab_unifiers.specs.Unification.{Answer, unified, apart, stuck, Solves}
use Rattle.ab_unifiers.proofs.Unique.{unique}
use Rattle.ab_unifiers.proofs.Ending.{answered}
use Rattle.ab_unifiers.specs.Clauses.{Each}
use Rattle.ab_formulas.specs.Sequents.{Variable, Sequent, over}
use Rattle.ab_formulas.specs.NamedGoals.{variable_named}
use Rattle.ab_theory.specs.Equations.{made, Naming, Named, under}
use Rattle.ab_theory.specs.Splits.{Case, problem_of, cell_for, Arises, NeverArises, IsOpen, CaseOver, Split, done, never, arises, IsUnsplit, here, past_never, past_goal}
use Rattle.ab_unifiers.specs.Renumbering.{renumbered_equation, renumbered_pairs, renumbered_state, renumbered_answer, IsRenumbering}
use Rattle.ab_unifiers.proofs.Changes.{extended}
use Rattle.ab_unifiers.proofs.Runs.{renumbered_solves, cells_kept}
use Rattle.ab_effects.proofs.Namings.{HaveSameNames, IsByNames}
use Rattle.ab_effects.proofs.Renumbered.{moved_variable, moved_goal, names_kept}
use Rattle.ab_effects.proofs.Carrying.{GoOn, one_on, at_once, named_list, most_of, made_moved, under_moved, behind_more}
use Rattle.ab_effects.proofs.Thirds.{indexed}
use Rattle.ab_effects.proofs.Outcomes.{named_again}

abbrev Cells : Type 0
Cells = List (Cell (List ℕ))

-- the second case is the first with other numbers: behind the cells that there were stand the same new ones
pub record Moves (f : ℕ → ℕ) (cells others : Cells) (c d : Case) : Type 0 where
  pub new : Cells
  pub before_first : c.before ≡ cells ++ new
  pub before_second : d.before ≡ others ++ new
  pub own : d.own ≡ c.own
  pub equations : map (renumbered_equation f) c.equations ≡ d.equations
  pub flexible : map (translate_variable f) c.flexible ≡ d.flexible
  pub goal : moved_goal f c.goal ≡ d.goal

indexed_moved : (f : ℕ → ℕ) (n m : ℕ) (vs : List (tree.Variable (List ℕ))) → GoOn f n m → map (moved_variable f) (indexed n vs) ≡ indexed m vs
indexed_moved f n m [] on = refl
indexed_moved f n m (v ∷ vs) on =
    ap (λ i. record { number = i; type = v.type; name = v.name } ∷ map (moved_variable f) (indexed (n + 1) vs)) (at_once f n m on)
    ∙ ap (λ l. record { number = m; type = v.type; name = v.name } ∷ l) (indexed_moved f (n + 1) (m + 1) vs (one_on f n m on))

-- variables that are numbered in turn
in_turn : (IsName : Naming) (s : Sequent) (n : ℕ) (xs ys : List Variable) → Named IsName s n xs ys → ys ≡ indexed n (map variable_named ys)
in_turn IsName s n [] [] d = refl
in_turn IsName s n [] (y ∷ ys) d = absurd d
in_turn IsName s n (x ∷ xs) [] d = refl
in_turn IsName s n (x ∷ xs) (y ∷ ys) d =
    ap (λ j. record { number = j; type = y.type; name = y.name } ∷ ys) d.0
    ∙ ap (λ l. record { number = n; type = y.type; name = y.name } ∷ l) (in_turn IsName (over y s) (n + 1) xs ys d.3)

cells_moved : (f : ℕ → ℕ) (ys : List Variable) → map cell_for (map (moved_variable f) ys) ≡ map cell_for ys
cells_moved f [] = refl
cells_moved f (y ∷ ys) = ap (λ l. cell_for y ∷ l) (cells_moved f ys)

module _ (f : ℕ → ℕ) (cells others : Cells) (r : IsRenumbering f cells others) (c d : Case) (m : Moves f cells others c d) where
  before_moved : IsRenumbering f c.before d.before
  before_moved = subst (λ l. IsRenumbering f l d.before) (sym m.before_first) (subst (IsRenumbering f (cells ++ m.new)) (sym m.before_second) (extended f cells others m.new r))

  all_moved : IsRenumbering f (c.before ++ c.own) (d.before ++ d.own)
  all_moved = subst (λ l. IsRenumbering f (c.before ++ c.own) (d.before ++ l)) (sym m.own) (extended f c.before d.before c.own before_moved)

  problem_same : renumbered_state f (d.before ++ d.own) (problem_of c) ≡ problem_of d
  problem_same =
      let equations = m.equations in
      let flexible = m.flexible in
      λ i. record { equations = equations i; cells = d.before ++ d.own; flexible = flexible i; pairs = [] }

  abbrev pub E : Answer (List ℕ) → Answer (List ℕ)
  E = renumbered_answer f (c.before ++ c.own) (d.before ++ d.own)

  pub solved_moved : (a : Answer (List ℕ)) → Solves (codes "x") (problem_of c) a → Solves (codes "x") (problem_of d) (E a)
  solved_moved a s = subst (λ q. Solves (codes "x") q (E a)) problem_same (renumbered_solves f (codes "x") (problem_of c) (d.before ++ d.own) a all_moved s)

  pub never_moved : NeverArises c → NeverArises d
  never_moved n = solved_moved apart n

  pub open_moved : (i : ℕ) → IsOpen c i → IsOpen d i
  open_moved i o = solved_moved (stuck i) o

  abbrev pub SolvedBack : Answer (List ℕ) → Type 0
  SolvedBack b = (a : Answer (List ℕ)) × Solves (codes "x") (problem_of c) a × (E a ≡ b)

  pub solved_back : (b : Answer (List ℕ)) → Solves (codes "x") (problem_of d) b → SolvedBack b
  solved_back b s = let a = answered (codes "x") (problem_of c) in (a.0, a.1, unique (codes "x") (solved_moved a.0 a.1) s)

  pub never_back : NeverArises d → NeverArises c
  never_back n = let w = solved_back apart n in go w.0 w.1 w.2
    where
      go : (a : Answer (List ℕ)) → Solves (codes "x") (problem_of c) a → E a ≡ apart → NeverArises c
      go (unified more q) s e = absurd (cc)
      go apart s e = s
      go (stuck j) s e = absurd (cc)

  pub open_back : (i : ℕ) → IsOpen d i → IsOpen c i
  open_back i o = let w = solved_back (stuck i) o in go w.0 w.1 w.2
    where
      go : (a : Answer (List ℕ)) → Solves (codes "x") (problem_of c) a → E a ≡ stuck i → IsOpen c i
      go (unified more q) s e = absurd (cc)
      go apart s e = absurd (cc)
      go (stuck j) s e = let same : j ≡ i = cc in subst (IsOpen c) same s

  same_names : HaveSameNames c.goal d.goal
  same_names = sym (names_kept f c.goal.variables) ∙ ap (λ (s : Sequent). map variable_named s.variables) m.goal

  module _ (more tail : Cells) (e : more ≡ (c.before ++ c.own) ++ tail) where
    abbrev Most : Cells
    Most = most_of f c.before d.before before_moved more

    abbrev Tail : Cells
    Tail = c.own ++ tail

    behind : more ≡ c.before ++ Tail
    behind = e ∙ append_assoc c.before c.own tail

    most_is : Most ≡ d.before ++ Tail
    most_is = ap (λ l. d.before ++ l) (ap (drop (length c.before)) behind ∙ drop-append_seam c.before Tail)

    most_all : (d.before ++ d.own) ++ drop (length (c.before ++ c.own)) more ≡ Most
    most_all =
        ap (λ l. (d.before ++ d.own) ++ l) (ap (drop (length (c.before ++ c.own))) e ∙ drop-append_seam (c.before ++ c.own) tail)
        ∙ append_assoc d.before d.own tail
        ∙ ap (λ l. d.before ++ (l ++ tail)) m.own
        ∙ sym most_is

    -- all variables then, of which the first are those that there were
    all_first : (vs : Cells) → more ++ vs ≡ cells ++ (m.new ++ (Tail ++ vs))
    all_first vs =
        ap (λ l. l ++ vs) behind
        ∙ append_assoc c.before Tail vs
        ∙ ap (λ l. l ++ (Tail ++ vs)) m.before_first
        ∙ append_assoc cells m.new (Tail ++ vs)

    all_second : (vs : Cells) → Most ++ vs ≡ others ++ (m.new ++ (Tail ++ vs))
    all_second vs =
        ap (λ l. l ++ vs) most_is
        ∙ append_assoc d.before Tail vs
        ∙ ap (λ l. l ++ (Tail ++ vs)) m.before_second
        ∙ append_assoc others m.new (Tail ++ vs)

  -- what solving made, with other numbers
  pub made_answered : (more : Cells) (q : Substitution ℕ (List ℕ)) → Solves (codes "x") (problem_of c) (unified more q)
      → made d.before ((d.before ++ d.own) ++ drop (length (c.before ++ c.own)) more) (renumbered_pairs f q) ≡ map (moved_variable f) (made c.before more q)
  made_answered more q s =
      let kept = cells_kept (codes "x") (problem_of c) more q s in
      ap (λ l. made d.before l (renumbered_pairs f q)) (most_all more kept.0 kept.1) ∙ made_moved f c.before d.before before_moved more q

  module _ (IsName : Naming) (by : IsByNames IsName) where
    pub arises_moved : (after : Cells) (g : Sequent) → Arises IsName c after g → (new : Cells) × (after ≡ cells ++ new) × Arises IsName d (others ++ new) (moved_goal f g)
    arises_moved after g a =
        let kept = cells_kept (codes "x") (problem_of c) a.more a.answer a.solved in
        let tail = kept.0 in
        let most = most_of f c.before d.before before_moved a.more in
        let pairs = renumbered_pairs f a.answer in
        let on = behind_more f c.before d.before before_moved a.more (c.own ++ tail) (behind a.more tail kept.1) in
        let list = named_list IsName by f c.goal d.goal (length a.more) (length most) (made c.before a.more a.answer) a.new same_names on a.named in (
          m.new ++ ((c.own ++ tail) ++ map cell_for a.new),
          a.all ∙ all_first a.more tail kept.1 (map cell_for a.new),
          record {
            more = most;
            answer = pairs;
            new = map (moved_variable f) a.new;
            solved = subst (λ l. Solves (codes "x") (problem_of d) (unified l pairs)) (most_all a.more tail kept.1) (solved_moved (unified a.more a.answer) a.solved);
            named = subst (λ l. Named IsName d.goal (length most) l (map (moved_variable f) a.new)) (sym (made_moved f c.before d.before before_moved a.more a.answer)) list;
            all = sym (all_second a.more tail kept.1 (map cell_for a.new)) ∙ ap (λ l. most ++ l) (sym (cells_moved f a.new));
            goal =
                ap (moved_goal f) a.goal
                ∙ under_moved f c.before d.before before_moved a.more a.answer a.new c.goal
                ∙ ap (under d.before most pairs (map (moved_variable f) a.new)) m.goal;
          },
        )

    abbrev ArisesBack : Cells → Sequent → Type 0
    ArisesBack after h = (new : Cells) × (g : Sequent) × (after ≡ others ++ new) × Arises IsName c (cells ++ new) g × (moved_goal f g ≡ h)

    back_by : (after : Cells) (h : Sequent) (b : Arises IsName d after h) (a : Answer (List ℕ)) → Solves (codes "x") (problem_of c) a → E a ≡ unified b.more b.answer → ArisesBack after h
    back_by after h b apart s e = absurd (cc)
    back_by after h b (stuck j) s e = absurd (cc)
    back_by after h b (unified more q) s e =
        let kept = cells_kept (codes "x") (problem_of c) more q s in
        let tail = kept.0 in
        let all : (d.before ++ d.own) ++ drop (length (c.before ++ c.own)) more ≡ b.more = cc in
        let pairs : renumbered_pairs f q ≡ b.answer = cc in
        let most : most_of f c.before d.before before_moved more ≡ b.more = sym (most_all more tail kept.1) ∙ all in
        let lists : map (moved_variable f) (made c.before more q) ≡ made d.before b.more b.answer =
        sym (made_moved f c.before d.before before_moved more q)
        ∙ ap (λ l. made d.before l (renumbered_pairs f q)) most
        ∙ ap (made d.before b.more) pairs in
        let alike : map variable_named (made d.before b.more b.answer) ≡ map variable_named (made c.before more q) =
        ap (map variable_named) (sym lists) ∙ names_kept f (made c.before more q) in
        let zs = indexed (length more) (map variable_named b.new) in
        let list = named_again IsName by d.goal c.goal (length b.more) (length more) (made d.before b.more b.answer) (made c.before more q) b.new (sym same_names) alike b.named in
        let on : GoOn f (length more) (length b.more) =
        subst (λ (l : Cells). GoOn f (length more) (length l)) most (behind_more f c.before d.before before_moved more (c.own ++ tail) (behind more tail kept.1)) in
        let numbers : map (moved_variable f) zs ≡ b.new =
        indexed_moved f (length more) (length b.more) (map variable_named b.new) on
        ∙ sym (in_turn IsName d.goal (length b.more) (made d.before b.more b.answer) b.new b.named) in
        let cells_same : map cell_for b.new ≡ map cell_for zs = ap (map cell_for) (sym numbers) ∙ cells_moved f zs in (
          m.new ++ ((c.own ++ tail) ++ map cell_for zs),
          under c.before more q zs c.goal,
          b.all ∙ ap (λ l. b.more ++ l) cells_same ∙ ap (λ l. l ++ map cell_for zs) (sym most) ∙ all_second more tail kept.1 (map cell_for zs),
          record {
            more = more;
            answer = q;
            new = zs;
            solved = s;
            named = list;
            all = sym (all_first more tail kept.1 (map cell_for zs));
            goal = refl;
          },
          under_moved f c.before d.before before_moved more q zs c.goal
              ∙ ap (λ l. under d.before l (renumbered_pairs f q) (map (moved_variable f) zs) (moved_goal f c.goal)) most
              ∙ ap (λ p. under d.before b.more p (map (moved_variable f) zs) (moved_goal f c.goal)) pairs
              ∙ ap (λ l. under d.before b.more b.answer l (moved_goal f c.goal)) numbers
              ∙ ap (under d.before b.more b.answer b.new) m.goal
              ∙ sym b.goal,
        )

    pub arises_back : (after : Cells) (h : Sequent) → Arises IsName d after h → ArisesBack after h
    arises_back after h b = let w = solved_back (unified b.more b.answer) b.solved in back_by after h b w.0 w.1 w.2

-- WHOLE LISTS OF CASES

-- over all variables that may be made, the second case is the first with other numbers
abbrev pub Follows : (ℕ → ℕ) → CaseOver → CaseOver → Type 0
Follows f c d = (cells others : Cells) → IsRenumbering f cells others → Moves f cells others (c cells) (d others)

module _ (f : ℕ → ℕ) (IsName : Naming) (by : IsByNames IsName) where
  pub split_moved : (cells others : Cells) → IsRenumbering f cells others → (cs ds : List CaseOver) → Each (Follows f) cs ds → (gs : List Sequent) → Split IsName cells cs gs → Split IsName others ds (map (moved_goal f) gs)
  split_moved cells others r [] [] each [] done = done
  split_moved cells others r [] [] each (g ∷ gs) s = elim s [ ]
  split_moved cells others r [] (d ∷ ds) each gs s = absurd each
  split_moved cells others r (c ∷ cs) [] each gs s = absurd each
  split_moved cells others r (c ∷ cs) (d ∷ ds) each gs (never n rest) =
      never (never_moved f cells others r (c cells) (d others) (each.0 cells others r) n) (split_moved cells others r cs ds each.1 gs rest)
  split_moved cells others r (c ∷ cs) (d ∷ ds) each (g ∷ gs) (arises {after = after} a rest) =
      let w = arises_moved f cells others r (c cells) (d others) (each.0 cells others r) IsName by after g a in
      arises w.2 (split_moved (cells ++ w.0) (others ++ w.0) (extended f cells others w.0 r) cs ds each.1 gs (subst (λ l. Split IsName l cs gs) w.1 rest))

  pub unsplit_moved : (cells others : Cells) → IsRenumbering f cells others → (cs ds : List CaseOver) → Each (Follows f) cs ds → (i : ℕ) → IsUnsplit IsName cells cs i → IsUnsplit IsName others ds i
  unsplit_moved cells others r [] ds each i s = elim s [ ]
  unsplit_moved cells others r (c ∷ cs) [] each i s = absurd each
  unsplit_moved cells others r (c ∷ cs) (d ∷ ds) each i (here o) = here (open_moved f cells others r (c cells) (d others) (each.0 cells others r) i o)
  unsplit_moved cells others r (c ∷ cs) (d ∷ ds) each i (past_never n rest) =
      past_never (never_moved f cells others r (c cells) (d others) (each.0 cells others r) n) (unsplit_moved cells others r cs ds each.1 i rest)
  unsplit_moved cells others r (c ∷ cs) (d ∷ ds) each i (past_goal {after = after} {g = g} a rest) =
      let w = arises_moved f cells others r (c cells) (d others) (each.0 cells others r) IsName by after g a in
      past_goal w.2 (unsplit_moved (cells ++ w.0) (others ++ w.0) (extended f cells others w.0 r) cs ds each.1 i (subst (λ l. IsUnsplit IsName l cs i) w.1 rest))

  abbrev SplitBack : Cells → List CaseOver → List Sequent → Type 0
  SplitBack cells cs hs = (gs : List Sequent) × Split IsName cells cs gs × (map (moved_goal f) gs ≡ hs)

  pub split_back : (cells others : Cells) → IsRenumbering f cells others → (cs ds : List CaseOver) → Each (Follows f) cs ds → (hs : List Sequent) → Split IsName others ds hs → SplitBack cells cs hs
  split_back cells others r [] [] each [] done = ([], done, refl)
  split_back cells others r [] [] each (h ∷ hs) s = elim s [ ]
  split_back cells others r [] (d ∷ ds) each hs s = absurd each
  split_back cells others r (c ∷ cs) [] each hs s = absurd each
  split_back cells others r (c ∷ cs) (d ∷ ds) each hs (never n rest) =
      let w = split_back cells others r cs ds each.1 hs rest in
      (w.0, never (never_back f cells others r (c cells) (d others) (each.0 cells others r) n) w.1, w.2)
  split_back cells others r (c ∷ cs) (d ∷ ds) each (h ∷ hs) (arises {after = after} a rest) =
      let v = arises_back f cells others r (c cells) (d others) (each.0 cells others r) IsName by after h a in
      let w = split_back (cells ++ v.0) (others ++ v.0) (extended f cells others v.0 r) cs ds each.1 hs (subst (λ l. Split IsName l ds hs) v.2 rest) in
      (v.1 ∷ w.0, arises v.3 w.1, ap (λ k. k ∷ map (moved_goal f) w.0) v.4 ∙ ap (λ l. h ∷ l) w.2)

  pub unsplit_back : (cells others : Cells) → IsRenumbering f cells others → (cs ds : List CaseOver) → Each (Follows f) cs ds → (i : ℕ) → IsUnsplit IsName others ds i → IsUnsplit IsName cells cs i
  unsplit_back cells others r [] [] each i s = elim s [ ]
  unsplit_back cells others r [] (d ∷ ds) each i s = absurd each
  unsplit_back cells others r (c ∷ cs) [] each i s = absurd each
  unsplit_back cells others r (c ∷ cs) (d ∷ ds) each i (here o) = here (open_back f cells others r (c cells) (d others) (each.0 cells others r) i o)
  unsplit_back cells others r (c ∷ cs) (d ∷ ds) each i (past_never n rest) =
      past_never (never_back f cells others r (c cells) (d others) (each.0 cells others r) n) (unsplit_back cells others r cs ds each.1 i rest)
  unsplit_back cells others r (c ∷ cs) (d ∷ ds) each i (past_goal {after = after} {g = g} a rest) =
      let v = arises_back f cells others r (c cells) (d others) (each.0 cells others r) IsName by after g a in
      past_goal v.3 (unsplit_back (cells ++ v.0) (others ++ v.0) (extended f cells others v.0 r) cs ds each.1 i (subst (λ l. IsUnsplit IsName l ds i) v.2 rest))
