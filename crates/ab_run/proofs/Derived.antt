-- Theorems that are derived stay so, and each command that completes one brings its derivation.
use Rattle.std.proofs.Common.{◌≡◌, ◌<◌, ◌+◌, ℕ, List, [], ◌∷◌, ◌++◌, length, map, refl, sym, ap, ◌∙◌, subst, arith, append_assoc, inl, inr}
use Rattle.std.specs.List.{All}
use Rattle.std.proofs.lemmas.List.Elements.{All-cons}
use Rattle.std.proofs.lemmas.List.{append-nil, length-append}
use Rattle.std.proofs.lemmas.Bool.{cases_order}
use Rattle.ab_sigmod.specs.FileLoads.{Load}
use Rattle.ab_lex.specs.Commands.{Item}
use Rattle.ab_term.specs.Types.{Ty}
use Rattle.ab_term.specs.Constants.{Constant}
use Rattle.ab_term.specs.Terms.{Read}
use Rattle.ab_formulas.specs.Declarations.{Declarations, Block, a_kind, a_constant, a_block, a_theorem, theorems_in, names_at}
use Rattle.ab_formulas.proofs.Declaring.{theorems_in-append}
use Rattle.ab_grammar.specs.CommandTrees.{Command}
use Rattle.ab_session.specs.ab_states.specs.ab_specification.specs.ab_declare.specs.DeclarationCommands.{Declares, new_kinds, new_constants, new_predicates}
use Rattle.ab_session.specs.ab_states.specs.ab_specification.specs.ab_declare.specs.DefinitionCommands.{block_with, predicate_of}
use Rattle.ab_grammar.specs.FileTrees.{Item as FileItem}
use Rattle.ab_session.specs.ab_states.specs.ab_specification.specs.ItemDeclarations.{ItemDeclares, new_kinds as item_kinds, new_constants as item_constants, new_clause, no_declaration}
use Rattle.ab_session.specs.ab_states.specs.ab_specification.specs.FileDeclarations.{PlacedItem, AllDeclare, no_item, one_more}
use Rattle.ab_theory.specs.Derivations.{Derivation}
use Rattle.ab_session.specs.ab_states.specs.State.{State, Entry, empty}
use Rattle.ab_session.specs.ab_states.specs.Replay.{IsReplayed}
use Rattle.ab_logic.specs.Worlds.{defined, first_declarations}
use Rattle.ab_logic.specs.declared.world.World.{World}
use Rattle.ab_session.specs.ab_states.specs.declared.reply.Reply.{Reply as Kept}
use Rattle.ab_session.specs.ab_states.specs.declared.reply.Reply.TheVariants.{Accepted, Completed, Admitted, Shown, Quit, Refused}
use Rattle.ab_session.specs.ab_states.specs.Reply.{Reply, done, reply_of}
use Rattle.ab_session.specs.ab_states.specs.DerivedTheorems.{IsDerived, AreDerived}
use Rattle.ab_session.specs.ab_states.proofs.Assumed.{derived_on, are_derived_before}
use Rattle.ab_session.specs.ab_states.specs.ForwardEffects.{assumed_after, theorem_of, GoesForward, unread, declined, declared, specified, item_declined, specified_twice, stated, showed, ended, switched, given_up, denied, led, proved}
use Rattle.ab_session.specs.SessionAnswers.{IsDerivedLast, IsProvedLast}
use Rattle.ab_run.specs.ProvedTheorems.{IsBorneOut, AllDerived}
use Rattle.ab_determinism.proofs.Taking.{holds_on}
use Rattle.ab_run.proofs.Replaying as replaying
use Rattle.ab_run.specs.declared.way.Way.{Way}
use Rattle.ab_run.specs.Report.{Moment, Report, Reports, none, next, last, Replies, to_command, to_long, state_behind}

no_kinds : (xs : List (List ℕ)) → theorems_in (map a_kind xs) ≡ []
no_kinds [] = refl
no_kinds (x ∷ xs) = no_kinds xs

no_constants : (A : Ty) (xs : List (List ℕ)) → theorems_in (map (λ x. a_constant x A) xs) ≡ []
no_constants A [] = refl
no_constants A (x ∷ xs) = no_constants A xs

no_definition : (ps : List Constant) (b : Block) → theorems_in (map predicate_of ps ++ a_block b ∷ []) ≡ []
no_definition [] b = refl
no_definition (p ∷ ps) b = no_definition ps b

no_theorems : {D : Declarations} {c : Command} {more : Declarations} → Declares D c more → theorems_in more ≡ []
no_theorems (new_kinds {xs = xs} e) = no_kinds xs
no_theorems (new_constants {xs = xs} {A = A} e f d) = no_constants A xs
no_theorems (new_predicates {inductive = inductive} d) =
    ap theorems_in d.is ∙ no_definition d.predicates (defined (block_with inductive d.predicates d.clauses))

no_theorems_of_item : {D : Declarations} {i : FileItem} {more : Declarations} → ItemDeclares D i more → theorems_in more ≡ []
no_theorems_of_item (item_kinds d) = no_theorems d
no_theorems_of_item (item_constants d) = no_theorems d
no_theorems_of_item (new_clause m) = refl
no_theorems_of_item no_declaration = refl

no_theorems_of_all : {D : Declarations} {is : List PlacedItem} {more : Declarations} → AllDeclare D is more → theorems_in more ≡ []
no_theorems_of_all no_item = refl
no_theorems_of_all (one_more {more = more} {rest = rest} d r) = theorems_in-append more rest ∙ (ap (λ q. q ++ theorems_in rest) (no_theorems_of_item d) ∙ no_theorems_of_all r)

declared_on : (D more : Declarations) → theorems_in more ≡ [] → AreDerived D → AreDerived (D ++ more)
declared_on D more n x place l =
    let e : theorems_in (D ++ more) ≡ theorems_in D = theorems_in-append D more ∙ (ap (λ q. theorems_in D ++ q) n ∙ append-nil (theorems_in D)) in
    let d = x place (subst (λ q. place < length q) e l) in
    (d.0, derived_on D more place d.0 d.1)

proved_on : (D E : Declarations) (name : List ℕ) (F : Read) (js : List ℕ) → E ≡ D ++ a_theorem name F js ∷ [] → IsDerivedLast E name → AreDerived D → AreDerived E
proved_on D E name F js e p x place l =
    let n = p.last in
    let size : length (theorems_in E) ≡ length (theorems_in D) + 1 =
    ap (λ q. length (theorems_in q)) e ∙ (ap length (theorems_in-append D (a_theorem name F js ∷ [])) ∙ length-append (theorems_in D) ((name, F) ∷ [])) in
    elim (cases_order place p.place) [
      | inl k ↦ (p.derivation, subst (λ q. IsDerived E q p.derivation) (sym k) p.derived)
      | inr (inl k) ↦
          let d = x place (omega (arith, n, size, k)) in
          (d.0, subst (λ q. IsDerived q place d.0) (sym e) (derived_on D (a_theorem name F js ∷ []) place d.0 d.1))
      | inr (inr k) ↦ absurd (omega (arith, n, l, k))
    ]

-- the theorem that is done is derived, whatever it assumes
done_derived : (name : List ℕ) (names : List (List ℕ)) (s : State) → IsBorneOut (done name names) s → IsDerivedLast s.declarations name
done_derived name [] s b = b.derived_last
done_derived name (n ∷ names) s b = b

derived_by : {s t : State} {e : Entry} {reply : Reply} → GoesForward s e reply t → IsBorneOut reply t → AllDerived s → AllDerived t
derived_by (unread c f) b x = x
derived_by (declined c r h d) b x = x
derived_by {s = s} (declared c more h d) b x = declared_on s.declarations more (no_theorems d) x
derived_by {s = s} (specified y files more h n d) b x = declared_on s.declarations more (no_theorems_of_all d) x
derived_by (item_declined y files v h n d) b x = x
derived_by (specified_twice y h k) b x = x
derived_by (stated y e F h n d) b x = x
derived_by (showed y F h e) b x = x
derived_by (ended h) b x = x
derived_by (switched on h) b x = x
derived_by (given_up h) b x = x
derived_by (denied l c a t gs r f d) b x = x
derived_by (led l c a t gs ps h hs f m e) b x = x
derived_by {s = s} {t = t} (proved l c a v gs ps f m e) b x =
    let js = assumed_after s a v c in
    proved_on s.declarations t.declarations a.name a.formula js refl (done_derived a.name (names_at t.declarations js) t b) x

-- what is declared stands behind what was declared
more_declared : {s t : State} {e : Entry} {reply : Reply} → GoesForward s e reply t → (more : Declarations) × (t.declarations ≡ s.declarations ++ more)
more_declared {s = s} (unread c f) = ([], sym (append-nil s.declarations))
more_declared {s = s} (declined c r h d) = ([], sym (append-nil s.declarations))
more_declared (declared c more h d) = (more, refl)
more_declared (specified y files more h n d) = (more, refl)
more_declared {s = s} (item_declined y files v h n d) = ([], sym (append-nil s.declarations))
more_declared {s = s} (specified_twice y h k) = ([], sym (append-nil s.declarations))
more_declared {s = s} (stated y e F h n d) = ([], sym (append-nil s.declarations))
more_declared {s = s} (showed y F h e) = ([], sym (append-nil s.declarations))
more_declared {s = s} (ended h) = ([], sym (append-nil s.declarations))
more_declared {s = s} (switched on h) = ([], sym (append-nil s.declarations))
more_declared {s = s} (given_up h) = ([], sym (append-nil s.declarations))
more_declared {s = s} (denied l c a t gs r f d) = ([], sym (append-nil s.declarations))
more_declared {s = s} (led l c a t gs ps h hs f m e) = ([], sym (append-nil s.declarations))
more_declared {s = s} (proved l c a v gs ps f m e) = (theorem_of (assumed_after s a v c) a ∷ [], refl)

pub none_yet : AllDerived empty
none_yet place l = let e : length (theorems_in first_declarations) ≡ 0 = refl in absurd (omega (arith, e, l))

replied : {s : State} {i : Item} {loads : List Load} {m : Moment} → Replies s i loads m → IsReplayed s → AllDerived s → AllDerived m.state
replied (to_command m h b) replayed x =
    holds_on AllDerived IsBorneOut (λ s t e r f borne y. derived_by f borne y)
    (λ s t e r f kept y. let more = more_declared f in are_derived_before s.declarations more.0 (subst AreDerived more.1 y))
    none_yet replayed h b x
replied (to_long m a e) replayed x = subst AllDerived (sym e) x

-- behind each report, each theorem has a derivation
pub all_derived : {w : Way} {s : State} {is : List Item} {loads : List Load} {r : Report} → Reports w s is loads r → IsReplayed s → AllDerived s → AllDerived (state_behind s r)
all_derived none replayed x = x
all_derived (next m h k z) replayed x = all_derived z (replaying.replied h replayed) (replied h replayed x)
all_derived (last m h k) replayed x = replied h replayed x

-- a reply brings what it says
borne_out : {s : State} {i : Item} {loads : List Load} {m : Moment} (reply : Reply) → Replies s i loads m → m.reply ≡ reply → IsBorneOut reply m.state
borne_out reply (to_command m h b) e = subst (λ q. IsBorneOut q m.state) e b
borne_out reply (to_long m a h) e = subst (λ q. IsBorneOut q m.state) (sym a ∙ e) tt

pub all_borne_out : {w : Way} {s : State} {is : List Item} {loads : List Load} {r : Report} (reply : Reply) → Reports w s is loads r → All (λ (m : Moment). m.reply ≡ reply → IsBorneOut reply m.state) r
all_borne_out reply none = λ k d l. absurd (omega arith)
all_borne_out reply (next {r = r} m h k x) = All-cons (λ (q : Moment). q.reply ≡ reply → IsBorneOut reply q.state) m r (borne_out reply h) (all_borne_out reply x)
all_borne_out reply (last m h k) = All-cons (λ (q : Moment). q.reply ≡ reply → IsBorneOut reply q.state) m [] (borne_out reply h) (λ k d l. absurd (omega arith))

-- what a session's answer says of a completion
pub borne : (w : World) (r : Kept) (s : State) → ((name : List ℕ) → r ≡ Completed name → IsProvedLast s.declarations name)
    → ((name : List ℕ) (names : List (List ℕ)) → r ≡ Admitted name names → IsDerivedLast s.declarations name) → IsBorneOut (reply_of w r) s
borne w Accepted s h k = tt
borne w (Completed name) s h k = h name refl
borne w (Admitted name names) s h k = k name names refl
borne w (Shown name f) s h k = tt
borne w Quit s h k = tt
borne w (Refused r) s h k = tt
