-- What is taken off a conclusion, one step of the kernel after another.
use Rattle.std.proofs.Common.{◌≡◌, ◌≢◌, inl, inr, ℕ, zero, suc, ◌+◌, ◌<◌, ◌≤◌, List, [], ◌∷◌, ◌++◌, Option, Some, None, length, drop, refl, sym, ◌∙◌, ap, subst, arith}
use Rattle.ab_grammar.specs.CommandTrees.{intros}
use Rattle.ab_term.specs.Types.{Ty}
use Rattle.ab_term.specs.Terms.{Nominal, Read}
use Rattle.ab_term.specs.Substitution.{instance}
use Rattle.ab_unify.specs.Problem.{cells_read}
use Rattle.ab_formulas.specs.Declarations.{Declarations}
use Rattle.ab_formulas.specs.Forms.{for_all, nabla, implies, form_of, implies_in, as_implies, for_all_in, as_for_all, nabla_in, as_nabla}
use Rattle.ab_formulas.specs.NewNames.{Label, Names, NoName}
use Rattle.ab_formulas.specs.Sequents.{Sequent, proving, assuming, over}
use Rattle.ab_logic.specs.Worlds.{IsWorld, declarations_of}
use Rattle.ab_logic.specs.declared.world.World.{World}
use Rattle.ab_theory.specs.Steps.{for_all_right, nabla_right, arrow_right}
use Rattle.ab_theory.specs.Rules.{NamedRule, Fails, raised, applied, name_term}
use Rattle.ab_theory.proofs.NewNumbers.{new_number}
use Rattle.ab_steps.specs.ab_kernel.specs.Layout.{Held, IsProof, goals_of}
use Rattle.ab_effects.specs.ProofCommands.{effect, introducing, left_over, clashing_names}
use Rattle.ab_effects.specs.Introductions.{Introduced, Unnamed, first_label, others, taken_off}
use Rattle.ab_effects.specs.Openings.{Taken}
use Rattle.ab_meaning.specs.Refusals.{wrong_shape, names_spent}
use Rattle.ab_effects.specs.Row.{Leads, Refuses}
use Rattle.ab_steps.specs.ProofEffects.{RefusedBy}
use Rattle.ab_steps.specs.declared.fault.ProofCommandFault.{ProofCommandFault}
use Rattle.ab_steps.specs.declared.fault.ProofCommandFault.TheVariants.{Unknown, Clash, TypeClash, Untyped, NoHypothesis, WrongShape, Mark, NoMatch, NotPattern, Unresolved, NamesSpent, Memory}
use Rattle.ab_steps.specs.Progress.{Follows, Took, FailsAt, Holds}
use Rattle.ab_steps.proofs.Following.{first_at, at_first, one_at_least, follows_on, follows_not}
use Rattle.ab_steps.proofs.Connectives.{connectives, rigid_applied, rigid_name, same_connectives, fewer_for_all, fewer_nabla, fewer_implies, for_all_is, nabla_is, implies_is}
use Rattle.ab_conclusion.specs.IntroductionSteps.{LeadsOn, IsTakenOff, IsAtItsEnd, IsNameless}

-- ONE STEP

some_none : {X : Type 0} (x : X) (o : Option X) → o ≡ Some x → o ≡ None → ⊥
some_none x o some none = let clash : Some x ≡ None = sym some ∙ none in cc

-- every first goal asks for the formula
abbrev pub Asks : World → Held → Read → Type 0
Asks w p F = (s : Sequent) (rest : List Sequent) → goals_of w p ≡ s ∷ rest → s.conclusion ≡ F

pub sure_for_all : (w : World) (p : Held) (F : Read) (A : Ty) (t : Read) → Asks w p F → form_of F ≡ for_all A t → Holds w p 0 for_all_right
sure_for_all w p F A t asks is before behind s at i (inl (none, j)) =
    let same = asks s behind (at_first w p before behind s at) in
    let some : as_for_all s.conclusion ≡ Some (A, t) = ap as_for_all same ∙ ap for_all_in is in
    some_none (A, t) (as_for_all s.conclusion) some none
sure_for_all w p F A t asks is before behind s at i (inr (quantified, are, none)) = none

pub sure_nabla : (w : World) (p : Held) (F : Read) (A : Ty) (t : Read) → Asks w p F → form_of F ≡ nabla A t → Holds w p 0 nabla_right
sure_nabla w p F A t asks is before behind s at i (inl (none, j)) =
    let same = asks s behind (at_first w p before behind s at) in
    let some : as_nabla s.conclusion ≡ Some (A, t) = ap as_nabla same ∙ ap nabla_in is in
    some_none (A, t) (as_nabla s.conclusion) some none
sure_nabla w p F A t asks is before behind s at i (inr (quantified, are, none)) = none

pub for_all_on : (w v : World) (p q : Held) (xs : List (List ℕ)) → Took w p v q 0 for_all_right → IsTakenOff xs xs w p v q
for_all_on w v p q xs took s rest e = go (took [] rest s (first_at w p s rest e))
  where
    go : ((ps : List Sequent) × NamedRule (declarations_of w) for_all_right s ps × (goals_of v q ≡ [] ++ ps ++ rest))
        → (u : Sequent) × LeadsOn (declarations_of w) xs s xs u × (connectives u.conclusion < connectives s.conclusion) × (goals_of v q ≡ u ∷ rest)
    go (ps, (cells, are_cells, (quantified, are, ((names, name), (support, named), led))), now) =
        let A = quantified.0 in
        let t = quantified.1 in
        let x = raised (length cells) name A names in
        let is : form_of s.conclusion ≡ for_all A t = for_all_is s.conclusion A t are in
        let u = proving (instance t (applied x names)) (over x s) in
        let taken : Taken (declarations_of w) s s.conclusion A t (instance t (applied x names)) (over x s) =
        record { number = length cells; name = name; names = names; new = new_number cells s are_cells; named = named; support_is = support; body = refl; goal = refl } in
        let as_many = same_connectives t (applied x names) (rigid_applied x names) in
        let fewer = fewer_for_all s.conclusion t A is in (
          u,
          record { leads = λ zs y i. Introduced.variable is taken i; fails = λ f. Unnamed.variable is taken f },
          omega (arith, as_many, fewer),
          now ∙ ap (λ qs. qs ++ rest) led,
        )

pub constant_on : (w v : World) (p q : Held) (xs : List (List ℕ)) → Took w p v q 0 nabla_right → IsTakenOff xs xs w p v q
constant_on w v p q xs took s rest e = go (took [] rest s (first_at w p s rest e))
  where
    go : ((ps : List Sequent) × NamedRule (declarations_of w) nabla_right s ps × (goals_of v q ≡ [] ++ ps ++ rest))
        → (u : Sequent) × LeadsOn (declarations_of w) xs s xs u × (connectives u.conclusion < connectives s.conclusion) × (goals_of v q ≡ u ∷ rest)
    go (ps, (cells, are_cells, (quantified, are, (n, least, led))), now) =
        let A = quantified.0 in
        let t = quantified.1 in
        let c : Nominal = record { number = n; type = A } in
        let is : form_of s.conclusion ≡ nabla A t = nabla_is s.conclusion A t are in
        let as_many = same_connectives t (name_term c) (rigid_name c) in
        let fewer = fewer_nabla s.conclusion t A is in (
          proving (instance t (name_term c)) s,
          record { leads = λ zs y i. Introduced.constant is least i; fails = λ f. Unnamed.constant is least f },
          omega (arith, as_many, fewer),
          now ∙ ap (λ qs. qs ++ rest) led,
        )

pub hypothesis_on : (w v : World) (p q : Held) (xs : List (List ℕ)) (l : Label) → l ≡ first_label xs → Took w p v q 0 (arrow_right l) → IsTakenOff xs (others xs) w p v q
hypothesis_on w v p q xs l given took s rest e = go (took [] rest s (first_at w p s rest e))
  where
    go : ((ps : List Sequent) × NamedRule (declarations_of w) (arrow_right l) s ps × (goals_of v q ≡ [] ++ ps ++ rest))
        → (u : Sequent) × LeadsOn (declarations_of w) xs s (others xs) u × (connectives u.conclusion < connectives s.conclusion) × (goals_of v q ≡ u ∷ rest)
    go (ps, (cells, are_cells, (pair, are, (name, counted, named, led))), now) =
        let A = pair.0 in
        let B = pair.1 in
        let is : form_of s.conclusion ≡ implies A B = implies_is s.conclusion A B are in
        let names = subst (λ m. Names m s name counted) given named in
        let fewer = fewer_implies s.conclusion A B is in (
          proving B (assuming name A counted),
          record { leads = λ zs y i. Introduced.hypothesis name counted is names i; fails = λ f. Unnamed.hypothesis name counted is names f },
          omega (arith, fewer),
          now ∙ ap (λ qs. qs ++ rest) led,
        )

-- the new hypothesis gets no name
pub nameless : (w : World) (p : Held) (xs : List (List ℕ)) (l : Label) (F A B : Read) → l ≡ first_label xs
    → Asks w p F → form_of F ≡ implies A B → FailsAt w p 0 (arrow_right l) → IsNameless xs w p
nameless w p xs l F A B given asks form fails s rest e = go (fails [] rest s (first_at w p s rest e))
  where
    is : form_of s.conclusion ≡ implies A B
    is = ap form_of (asks s rest e) ∙ form

    go : ((i : ℕ) × Fails (declarations_of w) (cells_read w.types w.store) (arrow_right l) s i) → Unnamed (declarations_of w) xs s
    go (i, inl (none, j)) = let some : as_implies s.conclusion ≡ Some (A, B) = ap implies_in is in absurd (some_none (A, B) (as_implies s.conclusion) some none)
    go (i, inr (pair, are, inl (none, j))) = Unnamed.unnamed is (subst (λ m. NoName m s) given none)
    go (i, inr (pair, are, inr (name, counted, named, led))) = absurd led

-- FAR ENOUGH

-- what becomes of the goal that is reached becomes of the first goal
pub record Reached (D : Declarations) (xs : List (List ℕ)) (s : Sequent) (ys : List (List ℕ)) (rest now : List Sequent) : Type 0 where
  pub goal : Sequent
  pub leads : LeadsOn D xs s ys goal
  pub goals : now ≡ goal ∷ rest

pub record Way (xs : List (List ℕ)) (w : World) (p : Held) (v : World) (q : Held) (given : ℕ) : Type 0 where
  pub follows : Follows w p v q
  pub within : given ≤ length xs
  pub some : goals_of v q ≢ []
  pub so_far : (s : Sequent) (rest : List Sequent) → goals_of w p ≡ s ∷ rest → Reached (declarations_of w) xs s (drop given xs) rest (goals_of v q)

pub starts : (xs : List (List ℕ)) (w : World) (p : Held) → IsWorld w → IsProof w p → goals_of w p ≢ [] → Way xs w p w p 0
starts xs w p world proof goal = record {
  follows = follows_not w p world proof;
  within = omega arith;
  some = goal;
  so_far = λ s rest e. record { goal = s; leads = record { leads = λ zs t i. i; fails = λ f. f }; goals = e };
}

leads_further : (D E : Declarations) → E ≡ D → (xs ys zs : List (List ℕ)) (s t u : Sequent) → LeadsOn D xs s ys t → LeadsOn E ys t zs u → LeadsOn D xs s zs u
leads_further D E same xs ys zs s t u one two =
    let three : LeadsOn D ys t zs u = subst (λ F. LeadsOn F ys t zs u) same two in
    record { leads = λ vs v i. one.leads vs v (three.leads vs v i); fails = λ f. one.fails (three.fails f) }

pub goes_on : (xs : List (List ℕ)) (w v u : World) (p q r : Held) (given next : ℕ) → Way xs w p v q given → Follows v q u r → next ≤ length xs
    → IsTakenOff (drop given xs) (drop next xs) v q u r → Way xs w p u r next
goes_on xs w v u p q r given next way follows within taken = record {
  follows = follows_on w v u p q r way.follows follows;
  within = within;
  some =
      let first = one_at_least (goals_of v q) way.some in
      let x = taken first.0 first.1 first.2 in
      λ none. let clash : x.0 ∷ first.1 ≡ [] = sym x.3 ∙ none in absurd (cc);
  so_far = λ s rest e.
      let before = way.so_far s rest e in
      let x = taken before.goal rest before.goals in
      record {
        goal = x.0;
        leads = leads_further (declarations_of w) (declarations_of v) way.follows.declared xs (drop given xs) (drop next xs) s before.goal x.0 before.leads x.1;
        goals = x.3;
      };
}

-- the number of connectives that the first goal's conclusion has
abbrev pub left_to_do : List Sequent → ℕ
left_to_do [] = 0
left_to_do (s ∷ ss) = connectives s.conclusion

pub nearer : (xs ys : List (List ℕ)) (v u : World) (q r : Held) → goals_of v q ≢ [] → IsTakenOff xs ys v q u r → left_to_do (goals_of u r) < left_to_do (goals_of v q)
nearer xs ys v u q r some taken =
    let first = one_at_least (goals_of v q) some in
    let x = taken first.0 first.1 first.2 in
    let old : left_to_do (goals_of v q) ≡ connectives first.0.conclusion = ap left_to_do first.2 in
    let new : left_to_do (goals_of u r) ≡ connectives x.0.conclusion = ap left_to_do x.3 in
    let fewer = x.2 in
    omega (arith, old, new, fewer)

-- THE ROW

none_left : (xs : List (List ℕ)) (n : ℕ) → length xs ≤ n → drop n xs ≡ []
none_left [] zero l = refl
none_left [] (suc n) l = refl
none_left (x ∷ xs) zero l = absurd (omega (arith, l))
none_left (x ∷ xs) (suc n) l = none_left xs n (omega (arith, l))

one_left : (xs : List (List ℕ)) (n : ℕ) → n < length xs → left_over (drop n xs) ≡ Some wrong_shape
one_left [] n l = absurd (omega (arith, l))
one_left (x ∷ xs) zero l = refl
one_left (x ∷ xs) (suc n) l = one_left xs n (omega (arith, l))

-- the goal is reached from which nothing can be taken off
at_end : (xs : List (List ℕ)) (w v : World) (p q : Held) (given : ℕ) → Way xs w p v q given → IsAtItsEnd v q → (s : Sequent) (rest : List Sequent) → goals_of w p ≡ s ∷ rest
    → (u : Sequent) × Introduced (declarations_of w) xs s (drop given xs) u × (goals_of v q ≡ u ∷ rest)
at_end xs w v p q given way end s rest e =
    let x = way.so_far s rest e in
    (x.goal, x.leads.leads (drop given xs) x.goal (Introduced.none (end x.goal rest x.goals)), x.goals)

pub introduced : (xs : List (List ℕ)) (w v u : World) (p q r : Held) (given : ℕ) → Way xs w p v q given → IsAtItsEnd v q → goals_of u r ≡ goals_of v q → length xs ≤ given
    → (s : Sequent) (rest : List Sequent) → goals_of w p ≡ s ∷ rest → (ps : List Sequent) × Leads (introducing (declarations_of w) xs s) ps × (goals_of u r ≡ ps ++ rest)
introduced xs w v u p q r given way end same l s rest e =
    let x = at_end xs w v p q given way end s rest e in
    let none : left_over (drop given xs) ≡ None = ap left_over (none_left xs given l) in
    (x.0 ∷ [], ((drop given xs, x.0), x.1, (none, refl)), same ∙ x.2)

pub one_too_many : (xs : List (List ℕ)) (w v : World) (p q : Held) (given : ℕ) → Way xs w p v q given → IsAtItsEnd v q → given < length xs
    → (s : Sequent) (rest : List Sequent) → goals_of w p ≡ s ∷ rest → Refuses (introducing (declarations_of w) xs s) wrong_shape
one_too_many xs w v p q given way end l s rest e =
    let x = at_end xs w v p q given way end s rest e in
    inr ((drop given xs, x.0), x.1, inl (one_left xs given l))

pub spent : (xs : List (List ℕ)) (w v : World) (p q : Held) (given : ℕ) → Way xs w p v q given → IsNameless (drop given xs) v q
    → (s : Sequent) (rest : List Sequent) → goals_of w p ≡ s ∷ rest → Refuses (introducing (declarations_of w) xs s) names_spent
spent xs w v p q given way none s rest e =
    let x = way.so_far s rest e in
    let here = none x.goal rest x.goals in
    inl (x.leads.fails (subst (λ D. Unnamed D (drop given xs) x.goal) way.follows.declared here), refl)

-- one of the names is given
pub one_given : (xs : List (List ℕ)) (n : ℕ) → n < length xs → drop (n + 1) xs ≡ others (drop n xs)
one_given [] n l = absurd (omega (arith, l))
one_given (x ∷ xs) zero l = refl
one_given (x ∷ xs) (suc n) l =
    let e : suc n + 1 ≡ suc (n + 1) = omega arith in
    ap (λ k. drop k (x ∷ xs)) e ∙ one_given xs n (omega (arith, l))

-- what refuses the work refuses the command, where the names may be given and there is something to take off
pub refused_so : (D : Declarations) (l : Label) (xs : List (List ℕ)) (s : Sequent) (fault : ProofCommandFault) → clashing_names [] xs s ≡ None → taken_off (form_of s.conclusion) ≡ Some tt
    → RefusedBy (introducing D xs s) fault → RefusedBy (effect D l (intros xs) s) fault
refused_so D l xs s (Unknown x) free begins r = inr (free, inr (tt, begins, r))
refused_so D l xs s (Clash x) free begins r = inr (free, inr (tt, begins, r))
refused_so D l xs s (TypeClash n) free begins r = inr (free, inr (tt, begins, r))
refused_so D l xs s (Untyped n) free begins r = inr (free, inr (tt, begins, r))
refused_so D l xs s (NoHypothesis x) free begins r = inr (free, inr (tt, begins, r))
refused_so D l xs s WrongShape free begins r = inr (free, inr (tt, begins, r))
refused_so D l xs s Mark free begins r = inr (free, inr (tt, begins, r))
refused_so D l xs s NoMatch free begins r = inr (free, inr (tt, begins, r))
refused_so D l xs s (NotPattern n) free begins r = inr (free, inr (tt, begins, r))
refused_so D l xs s (Unresolved x) free begins r = inr (free, inr (tt, begins, r))
refused_so D l xs s NamesSpent free begins r = inr (free, inr (tt, begins, r))
refused_so D l xs s (Memory f) free begins r = tt
