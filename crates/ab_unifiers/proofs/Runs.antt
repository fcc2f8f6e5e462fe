-- A step, and a row of steps, with other numbers.
use Rattle.std.proofs.Common.{◌≡◌, ℕ, List, [], ◌∷◌, ◌++◌, map, length, drop, Option, Some, None, refl, sym, ◌∙◌, ap, subst, append-nil}
use Rattle.std.proofs.Math.Seq.{drop-append_seam}
use Rattle.ab_term.specs.Terms.{Variable, Term}
use Rattle.ab_term.specs.Translation.{translate_variable, translate}
use Rattle.ab_term.specs.Variables.{Substitution, image, composition}
use Rattle.ab_term.specs.Sameness.{same_number}
use Rattle.ab_term.proofs.Translations.{map-append}
use Rattle.ab_unifiers.specs.Replacements.{Cell, Change}
use Rattle.ab_unifiers.specs.Unification.{Equation, State, Answer, unified, apart, stuck, Result, clash, parts, replaced, rule, Found, found_at, first_found, Next, finished, goes_on, image_of, ending, carried, next_by, next, Solves, at_end, by_step}
use Rattle.ab_unifiers.proofs.Unique.{unique}
use Rattle.ab_unifiers.specs.Renumbering.{renumbered_equation, renumbered_pairs, renumbered_state, renumbered_answer, IsRenumbering}
use Rattle.ab_unifiers.proofs.Changes.{Grown, image_moved, composition_moved}
use Rattle.ab_unifiers.proofs.Rules.{Gives, MayGive, rule_moved}

module _ (f : ℕ → ℕ) {Hint : Type 0} (x : Hint) (cells others : List (Cell Hint)) (r : IsRenumbering f cells others) where
  abbrev V : Variable ℕ → Variable ℕ
  V = translate_variable f

  abbrev T : Term ℕ Hint → Term ℕ Hint
  T = translate f (λ x. x)

  abbrev E : Equation Hint → Equation Hint
  E = renumbered_equation f

  abbrev May : Option (Result Hint) → Option (Result Hint) → Type 0
  May = MayGive f x cells others r

  record Finds (a b : Found Hint) : Type 0 where
    pub before : b.before ≡ map E a.before
    pub result : Gives f x cells others r a.result b.result
    pub behind : b.behind ≡ map E a.behind

  abbrev MayFind : Option (Found Hint) → Option (Found Hint) → Type 0
  MayFind None None = Unit {0}
  MayFind (Some a) (Some b) = Finds a b
  MayFind _ _ = ⊥

  found_moved : (e : Equation Hint) (es : List (Equation Hint)) (o p : Option (Result Hint)) (q s : Option (Found Hint)) → May o p → MayFind q s → MayFind (found_at e es o q) (found_at (E e) (map E es) p s)
  found_moved e es (Some a) (Some b) q s m n = record { before = refl; result = m; behind = refl }
  found_moved e es (Some a) None q s m n = absurd m
  found_moved e es None (Some b) q s m n = absurd m
  found_moved e es None None None None m n = tt
  found_moved e es None None None (Some b) m n = absurd n
  found_moved e es None None (Some a) None m n = absurd n
  found_moved e es None None (Some a) (Some b) m n = record { before = ap (λ l. E e ∷ l) n.before; result = n.result; behind = n.behind }

  first_moved : (g h : Equation Hint → Option (Result Hint)) → ((e : Equation Hint) → May (g e) (h (E e))) → (es : List (Equation Hint)) → MayFind (first_found g es) (first_found h (map E es))
  first_moved g h same [] = tt
  first_moved g h same (e ∷ es) = found_moved e es (g e) (h (E e)) (first_found g es) (first_found h (map E es)) (same e) (first_moved g h same es)

  -- the second state is the first, with other numbers
  record SameState (s q : State Hint) : Type 0 where
    pub grown : Grown f x cells others r s.cells q.cells
    pub equations : q.equations ≡ map E s.equations
    pub flexible : q.flexible ≡ map V s.flexible
    pub pairs : q.pairs ≡ renumbered_pairs f s.pairs

  abbrev SameAnswer : Answer Hint → Answer Hint → Type 0
  SameAnswer (unified more s) (unified most q) = Grown f x cells others r more most × (q ≡ renumbered_pairs f s)
  SameAnswer apart apart = Unit {0}
  SameAnswer (stuck n) (stuck m) = m ≡ n
  SameAnswer _ _ = ⊥

  abbrev SameNext : Next Hint → Next Hint → Type 0
  SameNext (finished a) (finished b) = SameAnswer a b
  SameNext (goes_on s) (goes_on q) = SameState s q
  SameNext _ _ = ⊥

  images_moved : (c d : Change Hint) → d.pairs ≡ renumbered_pairs f c.pairs → (es : List (Equation Hint)) → map (image_of d.pairs) (map E es) ≡ map E (map (image_of c.pairs) es)
  images_moved c d same [] = refl
  images_moved c d same (e ∷ es) =
      ap (λ b. b ∷ map (image_of d.pairs) (map E es))
      (ap (λ t. record { place = e.place; left = t; right = image same_number d.pairs (T e.right) }) (moved e.left)
      ∙ ap (λ t. record { place = e.place; left = T (image same_number c.pairs e.left); right = t }) (moved e.right))
      ∙ ap (λ l. E (image_of c.pairs e) ∷ l) (images_moved c d same es)
    where
      moved : (t : Term ℕ Hint) → image same_number d.pairs (T t) ≡ T (image same_number c.pairs t)
      moved t = ap (λ s. image same_number s (T t)) same ∙ sym (image_moved f x cells others r c.pairs t)

  carried_moved : (s q : State Hint) → SameState s q → (a b : Found Hint) → Finds a b → (o p : Result Hint) → Gives f x cells others r o p → SameNext (carried s a o) (carried q b p)
  carried_moved s q same a b n clash clash m = tt
  carried_moved s q same a b n clash (parts gs) m = absurd m
  carried_moved s q same a b n clash (replaced d) m = absurd m
  carried_moved s q same a b n (parts es) clash m = absurd m
  carried_moved s q same a b n (parts es) (replaced d) m = absurd m
  carried_moved s q same a b n (replaced c) clash m = absurd m
  carried_moved s q same a b n (replaced c) (parts gs) m = absurd m
  carried_moved s q same a b n (parts es) (parts gs) m = record {
    grown = same.grown;
    equations =
        ap (λ l. l ++ gs ++ b.behind) n.before
        ∙ ap (λ l. map E a.before ++ l ++ b.behind) m
        ∙ ap (λ l. map E a.before ++ map E es ++ l) n.behind
        ∙ ap (λ l. l ++ map E a.behind) (sym (map-append E a.before es))
        ∙ sym (map-append E (a.before ++ es) a.behind);
    flexible = same.flexible;
    pairs = same.pairs;
  }
  carried_moved s q same a b n (replaced c) (replaced d) m = record {
    grown = m.grown;
    equations =
        ap (λ l. map (image_of d.pairs) (l ++ b.behind)) n.before
        ∙ ap (λ l. map (image_of d.pairs) (map E a.before ++ l)) n.behind
        ∙ ap (map (image_of d.pairs)) (sym (map-append E a.before a.behind))
        ∙ images_moved c d m.pairs (a.before ++ a.behind);
    flexible = m.flexible;
    pairs =
        ap (λ l. composition same_number l d.pairs) same.pairs
        ∙ ap (composition same_number (renumbered_pairs f s.pairs)) m.pairs
        ∙ sym (composition_moved f x cells others r s.pairs c.pairs);
  }

  ending_moved : (s q : State Hint) → SameState s q → (es : List (Equation Hint)) → SameAnswer (ending s es) (ending q (map E es))
  ending_moved s q same [] = (same.grown, same.pairs)
  ending_moved s q same (e ∷ es) = refl

  by_moved : (s q : State Hint) → SameState s q → (o p : Option (Found Hint)) → MayFind o p → SameNext (next_by s o) (next_by q p)
  by_moved s q same None None m = subst (λ l. SameAnswer (ending s s.equations) (ending q l)) (sym same.equations) (ending_moved s q same s.equations)
  by_moved s q same None (Some b) m = absurd m
  by_moved s q same (Some a) None m = absurd m
  by_moved s q same (Some a) (Some b) m = carried_moved s q same a b m a.result b.result m.result

  next_moved : (s q : State Hint) → SameState s q → SameNext (next x s) (next x q)
  next_moved s q same =
      by_moved s q same (first_found (rule x s.cells s.flexible) s.equations) (first_found (rule x q.cells q.flexible) q.equations)
      (subst (λ es. MayFind (first_found (rule x s.cells s.flexible) s.equations) (first_found (rule x q.cells q.flexible) es)) (sym same.equations)
      (subst (λ ys. MayFind (first_found (rule x s.cells s.flexible) s.equations) (first_found (rule x q.cells ys) (map E s.equations))) (sym same.flexible)
      (first_moved (rule x s.cells s.flexible) (rule x q.cells (map V s.flexible)) (rule_moved f x cells others r s.cells q.cells same.grown s.flexible) s.equations)))

  -- the second problem has an answer too, the same with other numbers
  abbrev Answered : State Hint → Answer Hint → Type 0
  Answered q a = (b : Answer Hint) × Solves x q b × SameAnswer a b

  ended : (a : Answer Hint) (q : State Hint) (n : Next Hint) → next x q ≡ n → SameNext (finished a) n → Answered q a
  ended a q (finished b) e m = (b, at_end e, m)
  ended a q (goes_on p) e m = absurd m

  stepped : (s : State Hint) (a : Answer Hint) → ((q : State Hint) → SameState s q → Answered q a) → (q : State Hint) (n : Next Hint) → next x q ≡ n → SameNext (goes_on s) n → Answered q a
  stepped s a rest q (finished b) e m = absurd m
  stepped s a rest q (goes_on p) e m = let d = rest p m in (d.0, by_step e d.1, d.2)

  solves_moved : {s : State Hint} {a : Answer Hint} → Solves x s a → (q : State Hint) → SameState s q → Answered q a
  solves_moved {s = s} {a = a} (at_end e) q same = ended a q (next x q) refl (subst (λ n. SameNext n (next x q)) e (next_moved s q same))
  solves_moved {s = s} {a = a} (by_step {r = p} e d) q same = stepped p a (solves_moved d) q (next x q) refl (subst (λ n. SameNext n (next x q)) e (next_moved s q same))

  answer_moved : (a b : Answer Hint) → SameAnswer a b → b ≡ renumbered_answer f cells others a
  answer_moved (unified more s) (unified most q) m =
      let new : drop (length cells) more ≡ m.0.0 = ap (drop (length cells)) m.0.1 ∙ drop-append_seam cells m.0.0 in
      ap (λ l. unified l q) (m.0.2 ∙ ap (λ l. others ++ l) (sym new)) ∙ ap (unified (others ++ drop (length cells) more)) m.1
  answer_moved apart apart m = refl
  answer_moved (stuck n) (stuck k) m = ap stuck m
  answer_moved (unified more s) apart m = absurd m
  answer_moved (unified more s) (stuck k) m = absurd m
  answer_moved apart (unified more s) m = absurd m
  answer_moved apart (stuck k) m = absurd m
  answer_moved (stuck n) (unified more s) m = absurd m
  answer_moved (stuck n) apart m = absurd m

module _ (f : ℕ → ℕ) {Hint : Type 0} (x : Hint) where
  pub renumbered_solves : (s : State Hint) (others : List (Cell Hint)) (a : Answer Hint) → IsRenumbering f s.cells others → Solves x s a → Solves x (renumbered_state f others s) (renumbered_answer f s.cells others a)
  renumbered_solves s others a r d =
      let q : State Hint = renumbered_state f others s in
      let done = (solves_moved f x s.cells others r d q (record { grown = ([], sym (append-nil s.cells), sym (append-nil others)); equations = refl; flexible = refl; pairs = refl })) in
      subst (Solves x q) (answer_moved f x s.cells others r a done.0 done.2) done.1

-- two problems that are one with other numbers have answers that are one with these
pub same_answers : (f g : ℕ → ℕ) {Hint : Type 0} (x : Hint) (s q : State Hint) (third : List (Cell Hint)) (a b : Answer Hint) → IsRenumbering f s.cells third → IsRenumbering g q.cells third
    → renumbered_state f third s ≡ renumbered_state g third q → Solves x s a → Solves x q b → renumbered_answer f s.cells third a ≡ renumbered_answer g q.cells third b
same_answers f g x s q third a b r p e d c =
    unique x (renumbered_solves f x s third a r d) (subst (λ l. Solves x l (renumbered_answer g q.cells third b)) (sym e) (renumbered_solves g x q third b p c))

-- the cells stay, and those that were made follow them
pub cells_kept : {Hint : Type 0} (x : Hint) (s : State Hint) (more : List (Cell Hint)) (a : Substitution ℕ Hint) → Solves x s (unified more a) → (new : List (Cell Hint)) × (more ≡ s.cells ++ new)
cells_kept {Hint = Hint} x s more a d =
    let itself : IsRenumbering (λ i. i) s.cells s.cells = record { different = λ i j e. e; same_cells = λ i. refl; behind = λ k. refl } in
    let q : State Hint = renumbered_state (λ i. i) s.cells s in
    let done = solves_moved (λ i. i) x s.cells s.cells itself d q (record { grown = ([], sym (append-nil s.cells), sym (append-nil s.cells)); equations = refl; flexible = refl; pairs = refl }) in
    grown x s more a itself done.0 done.2
  where
    grown : (x : Hint) (s : State Hint) (more : List (Cell Hint)) (a : Substitution ℕ Hint) (r : IsRenumbering (λ i. i) s.cells s.cells) (b : Answer Hint) → SameAnswer (λ i. i) x s.cells s.cells r (unified more a) b → (new : List (Cell Hint)) × (more ≡ s.cells ++ new)
    grown x s more a r (unified most q) m = (m.0.0, m.0.1)
    grown x s more a r apart m = absurd m
    grown x s more a r (stuck n) m = absurd m
