-- Goals that ask for conjunctions give way to their halves, from the left.
use Rattle.std.proofs.Common.{◌≡◌, inl, inr, ℕ, ◌+◌, ◌-◌, ◌<◌, ◌≤◌, List, [], ◌∷◌, ◌++◌, Some, None, length, map, drop, refl, sym, ◌∙◌, ap, subst, arith, append_assoc, append-nil, length-append}
use Rattle.std.proofs.lemmas.List.{drop_at}
use Rattle.ab_grammar.specs.CommandTrees.{split_all}
use Rattle.ab_term.specs.Terms.{Read}
use Rattle.ab_unifiers.specs.Replacements.{Cell}
use Rattle.ab_unify.specs.Problem.{cells_read}
use Rattle.ab_formulas.specs.Declarations.{Declarations}
use Rattle.ab_formulas.specs.Forms.{as_both}
use Rattle.ab_formulas.specs.NewNames.{Label}
use Rattle.ab_formulas.specs.Sequents.{Sequent, proving}
use Rattle.ab_logic.specs.Worlds.{IsWorld, declarations_of}
use Rattle.ab_logic.specs.declared.world.World.{World}
use Rattle.ab_theory.specs.Conjuncts.{conjuncts}
use Rattle.ab_theory.specs.Steps.{and_right}
use Rattle.ab_theory.specs.Rules.{NamedRule, Fails}
use Rattle.ab_theory.proofs.Conjuncts.{both_conjuncts, alone_conjuncts}
use Rattle.ab_steps.specs.ab_kernel.specs.Layout.{Held, IsProof, goals_of}
use Rattle.ab_effects.specs.ProofCommands.{effect}
use Rattle.ab_meaning.specs.Refusals.{wrong_shape}
use Rattle.ab_effects.specs.Row.{Leads, Refuses}
use Rattle.ab_steps.specs.Progress.{IsAt, Follows, Took, FailsAt}
use Rattle.ab_conclusion.specs.Conjunctions.{Parted, none, whole, halves, AreParted}
use Rattle.ab_steps.proofs.Following.{Somewhere, somewhere, follows_on, follows_not}
use Rattle.ab_steps.proofs.Connectives.{connectives, both_is, fewer_both}

-- the goals before the place are parted, and those from it on are still to be
pub record Reached (ss rest : List Sequent) (place : ℕ) (now : List Sequent) : Type 0 where
  pub done : List Sequent
  pub pending : List Sequent
  pub goals : now ≡ done ++ (pending ++ rest)
  pub counted : length done ≡ place
  pub parts : (ts : List Sequent) → Parted pending ts → Parted ss (done ++ ts)

pub record Parting (w : World) (p : Held) (v : World) (q : Held) (place behind : ℕ) : Type 0 where
  pub follows : Follows w p v q
  pub within : place ≤ length (goals_of v q)
  pub so_far : (ss rest : List Sequent) → goals_of w p ≡ ss ++ rest → length rest ≡ behind → Reached ss rest place (goals_of v q)

pub starts : (w : World) (p : Held) (behind : ℕ) → IsWorld w → IsProof w p → Parting w p w p 0 behind
starts w p behind world proof = record {
  follows = follows_not w p world proof;
  within = omega arith;
  so_far = λ ss rest e l. record { done = []; pending = ss; goals = e; counted = refl; parts = λ ts x. x };
}

longer : (xs : List Sequent) (s : Sequent) (ys : List Sequent) → length (xs ++ s ∷ ys) ≡ length xs + (length ys + 1)
longer [] s ys = omega arith
longer (x ∷ xs) s ys = let rest = longer xs s ys in omega (arith, rest)

next_halves : (v u : World) (q r : Held) (ss rest : List Sequent) (place : ℕ) (done pending : List Sequent) → goals_of v q ≡ done ++ (pending ++ rest) → length done ≡ place
    → ((ts : List Sequent) → Parted pending ts → Parted ss (done ++ ts)) → length rest < length (goals_of v q) - place → Took v q u r place and_right
    → Reached ss rest place (goals_of u r)
next_halves v u q r ss rest place done [] goals counted parts l took =
    let e = ap length goals in
    let a = length-append done rest in
    absurd (omega (arith, e, a, counted, l))
next_halves v u q r ss rest place done (g ∷ gs) goals counted parts l took =
    halved (took done (gs ++ rest) g (record { goals = goals; counted = counted }))
  where
    halved : ((ps : List Sequent) × NamedRule (declarations_of v) and_right g ps × (goals_of u r ≡ done ++ ps ++ (gs ++ rest))) → Reached ss rest place (goals_of u r)
    halved (ps, (n, new, (pair, are, led)), now) = record {
      done = done;
      pending = proving pair.0 g ∷ proving pair.1 g ∷ gs;
      goals =
          now
          ∙ ap (λ xs. done ++ xs ++ (gs ++ rest)) led
          ∙ append_assoc done (proving pair.0 g ∷ proving pair.1 g ∷ []) (gs ++ rest);
      counted = counted;
      parts = λ ts x. parts ts (halves {A = pair.0} {B = pair.1} are x);
    }

next_whole : (v u : World) (q r : Held) (ss rest : List Sequent) (place : ℕ) (done pending : List Sequent) → goals_of v q ≡ done ++ (pending ++ rest) → length done ≡ place
    → ((ts : List Sequent) → Parted pending ts → Parted ss (done ++ ts)) → length rest < length (goals_of v q) - place → FailsAt v q place and_right → goals_of u r ≡ goals_of v q
    → Reached ss rest (place + 1) (goals_of u r)
next_whole v u q r ss rest place done [] goals counted parts l fails same =
    let e = ap length goals in
    let a = length-append done rest in
    absurd (omega (arith, e, a, counted, l))
next_whole v u q r ss rest place done (g ∷ gs) goals counted parts l fails same =
    stays (fails done (gs ++ rest) g (record { goals = goals; counted = counted }))
  where
    stays : ((i : ℕ) × Fails (declarations_of v) (cells_read v.types v.store) and_right g i) → Reached ss rest (place + 1) (goals_of u r)
    stays (i, inl f) = record {
      done = done ++ g ∷ [];
      pending = gs;
      goals = same ∙ goals ∙ sym (append_assoc done (g ∷ []) (gs ++ rest));
      counted = let n = longer done g [] in omega (arith, n, counted);
      parts = λ ts x. subst (Parted ss) (sym (append_assoc done (g ∷ []) ts)) (parts (g ∷ ts) (whole f.0 x));
    }
    stays (i, inr f) = absurd f.2

inside : (w v : World) (p q : Held) (place behind : ℕ) → Parting w p v q place behind → behind < length (goals_of v q) - place → place < length (goals_of v q)
inside w v p q place behind so_far l = omega (arith, l)

still_within : (v u : World) (q r : Held) (place : ℕ) → Somewhere v q place → Took v q u r place and_right → place ≤ length (goals_of u r)
still_within v u q r place here took = go (took here.before here.behind here.goal here.at)
  where
    go : ((ps : List Sequent) × NamedRule (declarations_of v) and_right here.goal ps × (goals_of u r ≡ here.before ++ ps ++ here.behind)) → place ≤ length (goals_of u r)
    go (ps, rule, now) =
        let e = ap length now in
        let a = length-append (here.before ++ ps) here.behind in
        let b = length-append here.before ps in
        let n = here.at.counted in
        omega (arith, e, a, b, n)

pub parting_halves : (w v u : World) (p q r : Held) (place behind : ℕ) → Parting w p v q place behind → behind < length (goals_of v q) - place → Follows v q u r → Took v q u r place and_right
    → Parting w p u r place behind
parting_halves w v u p q r place behind so_far l follows took = record {
  follows = follows_on w v u p q r so_far.follows follows;
  within = still_within v u q r place (somewhere v q place (omega (arith, l))) took;
  so_far = λ ss rest e n.
      let x = so_far.so_far ss rest e n in
      next_halves v u q r ss rest place x.done x.pending x.goals x.counted x.parts (omega (arith, n, l)) took;
}

pub parting_whole : (w v u : World) (p q r : Held) (place behind : ℕ) → Parting w p v q place behind → behind < length (goals_of v q) - place → Follows v q u r → FailsAt v q place and_right
    → goals_of u r ≡ goals_of v q → Parting w p u r (place + 1) behind
parting_whole w v u p q r place behind so_far l follows fails same = record {
  follows = follows_on w v u p q r so_far.follows follows;
  within = let e = ap length same in omega (arith, e, l);
  so_far = λ ss rest e n.
      let x = so_far.so_far ss rest e n in
      next_whole v u q r ss rest place x.done x.pending x.goals x.counted x.parts (omega (arith, n, l)) fails same;
}

-- nothing is left to look at
at_end : (v : World) (q : Held) (ss rest : List Sequent) (place : ℕ) (done pending : List Sequent) → goals_of v q ≡ done ++ (pending ++ rest) → length done ≡ place
    → ((ts : List Sequent) → Parted pending ts → Parted ss (done ++ ts)) → length (goals_of v q) - place ≤ length rest
    → (ts : List Sequent) × Parted ss ts × (goals_of v q ≡ ts ++ rest)
at_end v q ss rest place done [] goals counted parts l = (done ++ [], parts [] none, goals ∙ ap (λ xs. xs ++ rest) (sym (append-nil done)))
at_end v q ss rest place done (g ∷ gs) goals counted parts l =
    let e = ap length goals in
    let a = length-append done (g ∷ (gs ++ rest)) in
    let b = length-append gs rest in
    absurd (omega (arith, e, a, b, counted, l))

pub parted_all : (w v : World) (p q : Held) (place behind : ℕ) → Parting w p v q place behind → length (goals_of v q) - place ≤ behind → AreParted w p v q behind
parted_all w v p q place behind so_far l ss rest e n =
    let x = so_far.so_far ss rest e n in
    at_end v q ss rest place x.done x.pending x.goals x.counted x.parts (omega (arith, n, l))

-- WHAT IS LEFT TO BE DONE from a place on: a conjunction weighs more than its halves

abbrev pub weight : List Sequent → ℕ
weight [] = 0
weight (s ∷ ss) = (connectives s.conclusion + connectives s.conclusion + 1) + weight ss

weight_from : (gs before behind : List Sequent) (place : ℕ) → gs ≡ before ++ behind → length before ≡ place → weight (drop place gs) ≡ weight behind
weight_from gs before behind place e counted = ap (λ xs. weight (drop place xs)) e ∙ ap weight (drop_at before behind place counted)

pub lighter_halves : (v u : World) (q r : Held) (place : ℕ) → place < length (goals_of v q) → Took v q u r place and_right → weight (drop place (goals_of u r)) < weight (drop place (goals_of v q))
lighter_halves v u q r place l took =
    let here = somewhere v q place l in
    go here.before here.behind here.goal here.at (took here.before here.behind here.goal here.at)
  where
    go : (before behind : List Sequent) (s : Sequent) → IsAt v q place before s behind → ((ps : List Sequent) × NamedRule (declarations_of v) and_right s ps × (goals_of u r ≡ before ++ ps ++ behind))
        → weight (drop place (goals_of u r)) < weight (drop place (goals_of v q))
    go before behind s at (ps, (n, new, (pair, are, led)), now) =
        let a = connectives pair.0 in
        let b = connectives pair.1 in
        let c = connectives s.conclusion in
        let old : weight (drop place (goals_of v q)) ≡ (c + c + 1) + weight behind = weight_from (goals_of v q) before (s ∷ behind) place at.goals at.counted in
        let next : goals_of u r ≡ before ++ (proving pair.0 s ∷ proving pair.1 s ∷ behind) =
        now ∙ ap (λ xs. before ++ xs ++ behind) led ∙ append_assoc before (proving pair.0 s ∷ proving pair.1 s ∷ []) behind in
        let new : weight (drop place (goals_of u r)) ≡ (a + a + 1) + ((b + b + 1) + weight behind) =
        weight_from (goals_of u r) before (proving pair.0 s ∷ proving pair.1 s ∷ behind) place next at.counted in
        let fewer : a + b < c = fewer_both s.conclusion pair.0 pair.1 (both_is s.conclusion pair.0 pair.1 are) in
        omega (arith, old, new, fewer)

pub lighter_whole : (v u : World) (q r : Held) (place : ℕ) → place < length (goals_of v q) → goals_of u r ≡ goals_of v q → weight (drop (place + 1) (goals_of u r)) < weight (drop place (goals_of v q))
lighter_whole v u q r place l same =
    let here = somewhere v q place l in
    let c = connectives here.goal.conclusion in
    let old : weight (drop place (goals_of v q)) ≡ (c + c + 1) + weight here.behind = weight_from (goals_of v q) here.before (here.goal ∷ here.behind) place here.at.goals here.at.counted in
    let n = longer here.before here.goal [] in
    let counted = here.at.counted in
    let new : weight (drop (place + 1) (goals_of u r)) ≡ weight here.behind =
    weight_from (goals_of u r) (here.before ++ here.goal ∷ []) here.behind (place + 1)
    (same ∙ here.at.goals ∙ sym (append_assoc here.before (here.goal ∷ []) here.behind)) (omega (arith, n, counted)) in
    omega (arith, old, new)

-- THE ROW

-- the parts of formulas, one after another
abbrev all_conjuncts : List Read → List Read
all_conjuncts [] = []
all_conjuncts (G ∷ Gs) = conjuncts G ++ all_conjuncts Gs

abbrev asking : Sequent → List Read → List Sequent
asking s Fs = map (λ F. proving F s) Fs

parts_in : (s : Sequent) (ss ts : List Sequent) → Parted ss ts → (Gs : List Read) → ss ≡ asking s Gs → ts ≡ asking s (all_conjuncts Gs)
parts_in s _ _ none [] e = refl
parts_in s _ _ none (G ∷ Gs) e = absurd (cc)
parts_in s _ _ (whole is x) [] e = absurd (cc)
parts_in s _ _ (whole {s = g} {ss = ss} {ts = ts} is x) (G ∷ Gs) e =
    let here : g ≡ proving G s = cc in
    let behind : ss ≡ asking s Gs = cc in
    let alone = alone_conjuncts G (subst (λ (t : Sequent). as_both t.conclusion ≡ None) here is) in
    ap (λ t. t ∷ ts) here
    ∙ ap (λ us. proving G s ∷ us) (parts_in s ss ts x Gs behind)
    ∙ ap (λ Fs. asking s (Fs ++ all_conjuncts Gs)) (sym alone)
parts_in s _ _ (halves is x) [] e = absurd (cc)
parts_in s _ _ (halves {s = g} {A = A} {B = B} {ss = ss} {ts = ts} is x) (G ∷ Gs) e =
    let here : g ≡ proving G s = cc in
    let behind : ss ≡ asking s Gs = cc in
    let two : proving A g ∷ proving B g ∷ ss ≡ proving A s ∷ proving B s ∷ asking s Gs =
    ap (λ (t : Sequent). proving A t ∷ proving B t ∷ ss) here ∙ ap (λ us. proving A s ∷ proving B s ∷ us) behind in
    let both = both_conjuncts G A B (subst (λ (t : Sequent). as_both t.conclusion ≡ Some (A, B)) here is) in
    parts_in s (proving A g ∷ proving B g ∷ ss) ts x (A ∷ B ∷ Gs) two
    ∙ ap (asking s) (sym (append_assoc (conjuncts A) (conjuncts B) (all_conjuncts Gs)) ∙ ap (λ Fs. Fs ++ all_conjuncts Gs) (sym both))

pub split_all_leads : (D : Declarations) (l : Label) (s : Sequent) (pair : Read × Read) (ts : List Sequent) → as_both s.conclusion ≡ Some pair → Parted (proving pair.0 s ∷ proving pair.1 s ∷ []) ts
    → Leads (effect D l split_all s) ts
split_all_leads D l s pair ts is x = (
  pair,
  is,
  parts_in s (s ∷ []) ts (halves {A = pair.0} {B = pair.1} is x) (s.conclusion ∷ []) refl ∙ ap (asking s) (append-nil (conjuncts s.conclusion)),
)

pub split_all_fails : (D : Declarations) (cells : List (Cell (List ℕ))) (l : Label) (s : Sequent) (i : ℕ) → Fails D cells and_right s i → Refuses (effect D l split_all s) wrong_shape
split_all_fails D cells l s i (inl f) = inl (f.0, refl)
split_all_fails D cells l s i (inr f) = absurd f.2

-- the first goal was taken apart, and then its halves
pub split_apart : (w v u : World) (p q r : Held) (behind : ℕ) (l : Label) (s : Sequent) (rest : List Sequent) → goals_of w p ≡ s ∷ rest → behind + 1 ≡ length (goals_of w p)
    → Took w p v q 0 and_right → AreParted v q u r behind
    → (ps : List Sequent) × Leads (effect (declarations_of w) l split_all s) ps × (goals_of u r ≡ ps ++ rest)
split_apart w v u p q r behind l s rest e counted took all =
    go (took [] rest s (record { goals = e; counted = refl }))
  where
    go : ((ps : List Sequent) × NamedRule (declarations_of w) and_right s ps × (goals_of v q ≡ [] ++ ps ++ rest))
        → (ps : List Sequent) × Leads (effect (declarations_of w) l split_all s) ps × (goals_of u r ≡ ps ++ rest)
    go (ps, (n, new, (pair, are, led)), now) =
        let m = ap length e in
        let x = all (proving pair.0 s ∷ proving pair.1 s ∷ []) rest (now ∙ ap (λ xs. xs ++ rest) led) (omega (arith, m, counted)) in
        (x.0, split_all_leads (declarations_of w) l s pair x.0 are x.1, x.2)
