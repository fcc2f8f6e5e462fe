-- Each command that goes forward has one effect on a state.
use Rattle.std.proofs.Common.{◌≡◌, ◌⊎◌, inl, inr, ℕ, List, [], ◌∷◌, ◌++◌, map, Option, Some, None, refl, sym, ◌∙◌, ap, subst}
use Rattle.ab_grammar.specs.CommandTrees.{Command, kinds, constants, define, theorem, specification, show, quit, subgoals, abort, in_proof, ProofCommand, search, apply, backchain}
use Rattle.ab_term.specs.Terms.{Read}
use Rattle.ab_formulas.specs.Declarations.{Declarations, theorem_in}
use Rattle.ab_formulas.specs.NewNames.{Label}
use Rattle.ab_formulas.specs.Sequents.{Sequent, IsSequent}
use Rattle.ab_command.specs.declared.fault.Cause.{Cause}
use Rattle.ab_command.specs.CommandReadings.{Fails}
use Rattle.ab_command.proofs.Sayings.{says_one, fails_one, says_or_fails}
use Rattle.ab_sigmod.specs.FileOrder as file
use Rattle.ab_states.specs.ab_specification.specs.ab_declare.specs.declared.refusal.Refusal.{Refusal}
use Rattle.ab_states.specs.ab_specification.specs.ab_declare.specs.declared.refusal.Refusal.TheVariants.{Clash}
use Rattle.ab_states.specs.ab_specification.specs.ab_declare.specs.Refusals.{refusal_for}
use Rattle.ab_states.specs.ab_specification.specs.ab_declare.specs.DeclarationCommands.{States, Declares, Declines, new_kinds, new_constants, new_predicates, kind_taken, constant_taken, type_unknown, type_unfit, defines_nothing, theorem_taken, states_nothing, no_theorem}
use Rattle.ab_states.specs.ab_specification.specs.FileDeclarations.{SpecDeclares, SpecDeclines, items_of}
use Rattle.ab_states.specs.ab_specification.proofs.OneSpecification.{all_or_first, one_list, one_first}
use Rattle.ab_formulas.specs.NamedGoals.{Goal, named}
use Rattle.ab_effects.specs.ProofCommands.{given_label, effect}
use Rattle.ab_effects.specs.Debts.{taken_unless, debts_at}
use Rattle.ab_theory.specs.Assumptions.{with_debts}
use Rattle.ab_determinism.proofs.Namings.{used_alike}
use Rattle.ab_determinism.proofs.Rows.{AreOnce}
use Rattle.ab_determinism.proofs.Once.{once}
use Rattle.ab_states.specs.State.{Attempt, State, Entry, plain, is_open, keeping, declaring, proving, closed, showing}
use Rattle.ab_states.specs.Reply as reply
use Rattle.ab_states.specs.Reply.{Reply, accepted, shown, refused, unread_for}
use Rattle.ab_states.specs.ProofCommandEffects.{Makes, Denies}
use Rattle.ab_states.specs.ForwardEffects.{Commands, Faces, beginning, left_with, assumed_after, concluding, told_of, GoesForward, unread, declined, declared, specified, item_declined, specified_twice, stated, showed, ended, switched, given_up, denied, led, proved}
use Rattle.ab_states.specs.Replay.{Replays, none, next}
use Rattle.ab_determinism.specs.Sound.{AreSound, IsSound}
use Rattle.ab_determinism.proofs.Sound.{has_lists, has_member, sound_forward}
use Rattle.ab_determinism.proofs.Searching.{one_refusal, closed_or_refused}
use Rattle.ab_determinism.proofs.Declaring.{one_statement, one_declaring, one_declining, declares_or_not, states_or_not, shows_or_not}

-- A PROOF COMMAND at two sequents that are one goal with names for numbers
module _ (D : Declarations) (sound : AreSound D) (l : Label) (s u : Sequent) (is : IsSequent D s) (its : IsSequent D u) (same : named s ≡ named u) where
  both_once : (c : ProofCommand) → AreOnce (effect D l c s) (effect D l c u)
  both_once c = once D (has_lists D sound) sound.sentences sound.definitions sound.programs (has_member D sound) s u is its same l c

  one_making : (c : ProofCommand) → (ps qs : List Sequent) → Makes D l c s ps → Makes D l c u qs → map named ps ≡ map named qs
  one_making (search n) ps qs a b = ap (map named) (a.1 ∙ sym b.1)
  one_making c ps qs a b = (both_once c).goals ps qs a b

  one_denial : (c : ProofCommand) → (r q : Refusal) → Denies D l c s r → Denies D l c u q → r ≡ q
  one_denial (search n) r q a b = one_refusal D sound.definitions sound.programs l s u is its same n r q a b
  one_denial c r q a b = a.is ∙ ap refusal_for ((both_once c).refusal a.cause b.cause a.refuses b.refuses) ∙ sym b.is

  -- it owes the same at both
  one_owing : (c : ProofCommand) → debts_at s c ≡ debts_at u c
  one_owing (apply H vs is) = ap (λ b. taken_unless b H) (used_alike s u same H)
  one_owing (backchain H is) = ap (λ b. taken_unless b H) (used_alike s u same H)
  one_owing c = refl

  makes_or_denies : (c : ProofCommand) → (ps : List Sequent) (r : Refusal) → Makes D l c s ps → Denies D l c u r → ⊥
  makes_or_denies (search n) ps r a b = closed_or_refused D sound.definitions sound.programs l s u is its same n ps r a b
  makes_or_denies c ps r a b = (both_once c).apart ps b.cause a b.refuses

-- WHAT A COMMAND DOES, by what it says, where what was declared is sound
module _ (s : State) (sound : AreSound s.declarations) (entry : Entry) where
  abbrev Leaves : Refusal → Reply → State → Type 0
  Leaves v r t = (r ≡ refused v) × (t ≡ s)

  abbrev Refusing : Command → Reply → State → Type 0
  Refusing c r t = (v : Refusal) × Declines s.declarations c v × Leaves v r t

  abbrev Declaring : Command → Reply → State → Type 0
  Declaring c r t = (more : Declarations) × Declares s.declarations c more × (r ≡ accepted) × (t ≡ keeping entry (declaring more s))

  -- a specification, which read these files; without any it is refused
  abbrev Specifying : List ℕ → Option (List file.Read) → Reply → State → Type 0
  Specifying x None r t = Leaves (Clash x None) r t
  Specifying x (Some files) r t =
      ((v : Refusal) × SpecDeclines s.declarations files v × Leaves v r t)
      ⊎ ((more : Declarations) × SpecDeclares s.declarations files more × (r ≡ accepted) × (t ≡ keeping entry (declaring more s)))

  -- where these places are assumed, and these goals are left
  abbrev Leading : Attempt → List ℕ → List Goal → Reply → State → Type 0
  Leading a js [] r t = (r ≡ told_of js a s) × (t ≡ keeping entry (concluding js a s))
  Leading a js (h ∷ hs) r t = (r ≡ accepted) × (t ≡ keeping entry (proving (left_with (h ∷ hs) js a) s))

  abbrev Denying : Option (List ℕ) → ProofCommand → Sequent → Reply → State → Type 0
  Denying l c q r t = (v : Refusal) × Denies s.declarations (given_label l) c q v × Leaves v r t

  abbrev Making : Option (List ℕ) → ProofCommand → Attempt → Sequent → List Goal → Reply → State → Type 0
  Making l c a q gs r t = (ps : List Sequent) × Makes s.declarations (given_label l) c q ps × Leading a (assumed_after s a q c) (map named ps ++ gs) r t

  abbrev Does : Command → Reply → State → Type 0
  Does (kinds xs) r t = Refusing (kinds xs) r t ⊎ Declaring (kinds xs) r t
  Does (constants xs A) r t = Refusing (constants xs A) r t ⊎ Declaring (constants xs A) r t
  Does (define i ds cs) r t = Refusing (define i ds cs) r t ⊎ Declaring (define i ds cs) r t
  Does (theorem x e) r t =
      Refusing (theorem x e) r t
      ⊎ ((F : Read) × (theorem_in s.declarations x ≡ None) × States s.declarations e F × (r ≡ accepted) × (t ≡ keeping entry (proving (beginning x F) s)))
  Does (specification x) r t = Specifying x entry.specification r t
  Does (show x) r t = Refusing (show x) r t ⊎ ((F : Read) × (theorem_in s.declarations x ≡ Some F) × (r ≡ shown x F) × (t ≡ s))
  Does quit r t = (r ≡ reply.quit) × (t ≡ s)
  Does (subgoals on) r t = (r ≡ accepted) × (t ≡ keeping entry (showing on s))
  Does abort r t = (r ≡ accepted) × (t ≡ keeping entry (closed s))
  Does (in_proof l c) r t = (a : Attempt) × (q : Sequent) × (gs : List Goal) × Faces s entry.bytes l c a q gs × (Denying l c q r t ⊎ Making l c a q gs r t)
  Does _ r t = ⊥

  refusing_does : {c : Command} {v : Refusal} → Declines s.declarations c v → Does c (refused v) s
  refusing_does {v = v} (kind_taken e) = inl (v, kind_taken e, (refl, refl))
  refusing_does {v = v} (constant_taken e) = inl (v, constant_taken e, (refl, refl))
  refusing_does {v = v} (type_unknown e f) = inl (v, type_unknown e f, (refl, refl))
  refusing_does {v = v} (type_unfit e f n) = inl (v, type_unfit e f n, (refl, refl))
  refusing_does {v = v} (defines_nothing d) = inl (v, defines_nothing d, (refl, refl))
  refusing_does {v = v} (theorem_taken e) = inl (v, theorem_taken e, (refl, refl))
  refusing_does {v = v} (states_nothing f e n) = inl (v, states_nothing f e n, (refl, refl))
  refusing_does {v = v} (no_theorem e) = inl (v, no_theorem e, (refl, refl))

  declaring_does : {c : Command} {more : Declarations} → Declares s.declarations c more → Does c accepted (keeping entry (declaring more s))
  declaring_does {more = more} (new_kinds e) = inr (more, new_kinds e, refl, refl)
  declaring_does {more = more} (new_constants e f d) = inr (more, new_constants e f d, refl, refl)
  declaring_does {more = more} (new_predicates d) = inr (more, new_predicates d, refl, refl)

  -- an effect, by what the bytes say
  abbrev Says : Reply → State → Type 0
  Says r t = ((c : Cause) × Fails entry.bytes (is_open s) c × Leaves (unread_for c) r t) ⊎ ((c : Command) × Commands s entry.bytes c × Does c r t)

  -- ONE EFFECT

  abbrev Same : Reply → State → Reply → State → Type 0
  Same r t q u = (r ≡ q) × (t ≡ u)

  leaves_same : (v w : Refusal) (r q : Reply) (t u : State) → v ≡ w → Leaves v r t → Leaves w q u → Same r t q u
  leaves_same v w r q t u e a b = (a.0 ∙ ap refused e ∙ sym b.0, a.1 ∙ sym b.1)

  one_specifying : (x : List ℕ) (files : Option (List file.Read)) (r q : Reply) (t u : State) → Specifying x files r t → Specifying x files q u → Same r t q u
  one_specifying x None r q t u a b = leaves_same (Clash x None) (Clash x None) r q t u refl a b
  one_specifying x (Some files) r q t u (inl (v, d, a)) (inl (w, f, b)) = leaves_same v w r q t u (one_first s.declarations (items_of files) v w d f) a b
  one_specifying x (Some files) r q t u (inl (v, d, a)) (inr (more, f, k, j)) = absurd (all_or_first s.declarations (items_of files) more v f d)
  one_specifying x (Some files) r q t u (inr (more, d, k, j)) (inl (w, f, b)) = absurd (all_or_first s.declarations (items_of files) more w d f)
  one_specifying x (Some files) r q t u (inr (more, d, k, j)) (inr (others, f, m, n)) =
      (k ∙ sym m, j ∙ ap (λ ds. keeping entry (declaring ds s)) (one_list s.declarations (items_of files) more others d f) ∙ sym n)

  leading_same : (a : Attempt) (js : List ℕ) (gs : List Goal) (r q : Reply) (t u : State) → Leading a js gs r t → Leading a js gs q u → Same r t q u
  leading_same a js [] r q t u x y = (x.0 ∙ sym y.0, x.1 ∙ sym y.1)
  leading_same a js (h ∷ hs) r q t u x y = (x.0 ∙ sym y.0, x.1 ∙ sym y.1)

  -- declarations
  one_declared : (c : Command) (r q : Reply) (t u : State) → Refusing c r t ⊎ Declaring c r t → Refusing c q u ⊎ Declaring c q u → Same r t q u
  one_declared c r q t u (inl (v, d, a)) (inl (w, e, b)) = leaves_same v w r q t u (one_declining s.declarations d e) a b
  one_declared c r q t u (inl (v, d, a)) (inr (more, e, x, y)) = absurd (declares_or_not s.declarations e d)
  one_declared c r q t u (inr (more, d, x, y)) (inl (w, e, b)) = absurd (declares_or_not s.declarations d e)
  one_declared c r q t u (inr (more, d, x, y)) (inr (others, e, z, w)) =
      (x ∙ sym z, y ∙ ap (λ m. keeping entry (declaring m s)) (one_declaring s.declarations d e) ∙ sym w)

  -- proof commands
  module _ (l : Option (List ℕ)) (c : ProofCommand) (a : Attempt) (x y : Sequent) (gs : List Goal) (f : Faces s entry.bytes l c a x gs) (g : Faces s entry.bytes l c a y gs) (same : named x ≡ named y) where
    one_proof : (r q : Reply) (t u : State) → Denying l c x r t ⊎ Making l c a x gs r t → Denying l c y q u ⊎ Making l c a y gs q u → Same r t q u
    one_proof r q t u (inl (v, d, k)) (inl (w, e, j)) =
        leaves_same v w r q t u (one_denial s.declarations sound (given_label l) x y f.numbered.sequent g.numbered.sequent same c v w d e) k j
    one_proof r q t u (inl (v, d, k)) (inr (ps, m, j)) = absurd (makes_or_denies s.declarations sound (given_label l) y x g.numbered.sequent f.numbered.sequent (sym same) c ps v m d)
    one_proof r q t u (inr (ps, m, k)) (inl (w, e, j)) = absurd (makes_or_denies s.declarations sound (given_label l) x y f.numbered.sequent g.numbered.sequent same c ps w m e)
    one_proof r q t u (inr (ps, m, k)) (inr (qs, n, j)) =
        let goals = one_making s.declarations sound (given_label l) x y f.numbered.sequent g.numbered.sequent same c ps qs m n in
        let places : assumed_after s a x c ≡ assumed_after s a y c = ap (λ ts. with_debts s.declarations ts a.assumed) (one_owing s.declarations sound (given_label l) x y f.numbered.sequent g.numbered.sequent same c) in
        leading_same a (assumed_after s a y c) (map named qs ++ gs) r q t u (subst (λ js. Leading a js (map named qs ++ gs) r t) places (subst (λ ks. Leading a (assumed_after s a x c) (ks ++ gs) r t) goals k)) j

  first_same : {X : Type 0} {x y : X} {xs ys : List X} → x ∷ xs ≡ y ∷ ys → x ≡ y
  first_same e = cc

  rest_same : {X : Type 0} {x y : X} {xs ys : List X} → x ∷ xs ≡ y ∷ ys → xs ≡ ys
  rest_same e = cc

  one_goal : (l : Option (List ℕ)) (c : ProofCommand) (r q : Reply) (t u : State) → Does (in_proof l c) r t → Does (in_proof l c) q u → Same r t q u
  one_goal l c r q t u (a, x, gs, f, m) (b, y, hs, g, n) =
      let attempts : Some a ≡ Some b = sym f.attempt ∙ g.attempt in
      let one : a ≡ b = cc in
      let goals : f.current ∷ gs ≡ g.current ∷ hs = sym f.goals ∙ ap (λ (k : Attempt). k.goals) one ∙ g.goals in
      let there : Faces s entry.bytes l c a y gs = subst (λ k. Faces s entry.bytes l c k y gs) (sym one) (subst (Faces s entry.bytes l c b y) (sym (rest_same goals)) g) in
      let same : named x ≡ named y = sym f.numbered.is ∙ first_same goals ∙ g.numbered.is in
      let also : Denying l c y q u ⊎ Making l c a y gs q u = subst (λ k. Denying l c y q u ⊎ Making l c k y gs q u) (sym one) (subst (λ ks. Denying l c y q u ⊎ Making l c b y ks q u) (sym (rest_same goals)) n) in
      one_proof l c a x y gs f there same r q t u m also

  one_doing : (c : Command) (r q : Reply) (t u : State) → Does c r t → Does c q u → Same r t q u
  one_doing (kinds xs) r q t u a b = one_declared (kinds xs) r q t u a b
  one_doing (constants xs A) r q t u a b = one_declared (constants xs A) r q t u a b
  one_doing (define i ds cs) r q t u a b = one_declared (define i ds cs) r q t u a b
  one_doing (theorem x e) r q t u (inl (v, d, a)) (inl (w, f, b)) = leaves_same v w r q t u (one_declining s.declarations d f) a b
  one_doing (theorem x e) r q t u (inl (v, d, a)) (inr (F, n, m, k, j)) = absurd (states_or_not s.declarations n m d)
  one_doing (theorem x e) r q t u (inr (F, n, m, k, j)) (inl (w, f, b)) = absurd (states_or_not s.declarations n m f)
  one_doing (theorem x e) r q t u (inr (F, n, m, k, j)) (inr (G, n2, m2, k2, j2)) =
      (k ∙ sym k2, j ∙ ap (λ H. keeping entry (proving (beginning x H) s)) (one_statement s.declarations e F G m m2) ∙ sym j2)
  one_doing (specification x) r q t u a b = one_specifying x entry.specification r q t u a b
  one_doing (show x) r q t u (inl (v, d, a)) (inl (w, f, b)) = leaves_same v w r q t u (one_declining s.declarations d f) a b
  one_doing (show x) r q t u (inl (v, d, a)) (inr (F, e, k, j)) = absurd (shows_or_not s.declarations e d)
  one_doing (show x) r q t u (inr (F, e, k, j)) (inl (w, f, b)) = absurd (shows_or_not s.declarations e f)
  one_doing (show x) r q t u (inr (F, e, k, j)) (inr (G, f, k2, j2)) =
      let both : Some F ≡ Some G = sym e ∙ f in
      let one : F ≡ G = cc in
      (k ∙ ap (shown x) one ∙ sym k2, j ∙ sym j2)
  one_doing quit r q t u a b = (a.0 ∙ sym b.0, a.1 ∙ sym b.1)
  one_doing (subgoals on) r q t u a b = (a.0 ∙ sym b.0, a.1 ∙ sym b.1)
  one_doing abort r q t u a b = (a.0 ∙ sym b.0, a.1 ∙ sym b.1)
  one_doing (in_proof l c) r q t u a b = one_goal l c r q t u a b
  one_doing _ r q t u a b = absurd a

  one_saying : {r q : Reply} {t u : State} → Says r t → Says q u → Same r t q u
  one_saying {r = r} {q = q} {t = t} {u = u} (inl (c, f, a)) (inl (d, g, b)) = leaves_same (unread_for c) (unread_for d) r q t u (ap unread_for (fails_one entry.bytes (is_open s) c d f g)) a b
  one_saying (inl (c, f, a)) (inr (d, k, b)) = absurd (says_or_fails entry.bytes (is_open s) d c k f)
  one_saying (inr (c, k, a)) (inl (d, g, b)) = absurd (says_or_fails entry.bytes (is_open s) c d k g)
  one_saying {r = r} {q = q} {t = t} {u = u} (inr (c, k, a)) (inr (d, j, b)) =
      one_doing d r q t u (subst (λ e. Does e r t) (says_one entry.bytes (is_open s) c d k j) a) b

said : (s : State) (sound : AreSound s.declarations) {e : Entry} {r : Reply} {t : State} → GoesForward s e r t → Says s sound e r t
said s sound (unread c f) = inl (c, f, (refl, refl))
said s sound (declined {bytes = bytes} c v k d) = inr (c, k, refusing_does s sound (plain bytes) d)
said s sound (declared {bytes = bytes} c more k d) = inr (c, k, declaring_does s sound (plain bytes) d)
said s sound (specified x files more k n d) = inr (specification x, k, inr (more, d, refl, refl))
said s sound (item_declined x files v k n d) = inr (specification x, k, inl (v, d, (refl, refl)))
said s sound (specified_twice x k n) = inr (specification x, k, (refl, refl))
said s sound (stated x e F k n d) = inr (theorem x e, k, inr (F, n, d, refl, refl))
said s sound (showed x F k e) = inr (show x, k, inr (F, e, refl, refl))
said s sound (ended k) = inr (quit, k, (refl, refl))
said s sound (switched on k) = inr (subgoals on, k, (refl, refl))
said s sound (given_up k) = inr (abort, k, (refl, refl))
said s sound (denied l c a q gs v f d) = inr (in_proof l c, f.says, (a, q, gs, f, inl (v, d, (refl, refl))))
said s sound (led {bytes = bytes} l c a q gs ps h hs f m e) =
    let js = assumed_after s a q c in
    inr (in_proof l c, f.says, (a, q, gs, f, inr (ps, m, subst (λ w. Leading s sound (plain bytes) a js w accepted (keeping (plain bytes) (proving (left_with (h ∷ hs) js a) s))) (sym e) (refl, refl))))
said s sound (proved {bytes = bytes} l c a q gs ps f m e) =
    let js = assumed_after s a q c in
    inr (in_proof l c, f.says, (a, q, gs, f, inr (ps, m, subst (λ w. Leading s sound (plain bytes) a js w (told_of js a s) (keeping (plain bytes) (concluding js a s))) (sym e) (refl, refl))))

-- A COMMAND THAT GOES FORWARD HAS ONE EFFECT on a state
pub one_forward : (s : State) → AreSound s.declarations → {e : Entry} {r q : Reply} {t u : State} → GoesForward s e r t → GoesForward s e q u → (r ≡ q) × (t ≡ u)
one_forward s sound {e = e} a b = one_saying s sound e (said s sound a) (said s sound b)

pub one_replay : {s t u : State} {es : List Entry} → IsSound s → Replays s es t → Replays s es u → t ≡ u
one_replay sound none none = refl
one_replay {u = u} sound (next {s = s} {e = e} {es = es} r h k x) (next q f j y) =
    one_replay (sound_forward h sound) x (subst (λ v. Replays v es u) (sym (one_forward s sound.declarations h f).1) y)
