-- A PROGRAM CLAUSE'S ATOM AND BODY, with terms for its own variables: what becomes of them under substitutions and with other constants.
use Rattle.std.proofs.Common.{◌≡◌, ℕ, zero, suc, List, [], ◌∷◌, map, length, codes, Bool, true, false, Option, Some, None, option_map, refl, sym, ◌∙◌, ap, subst}
use Rattle.std.specs.Prelude.{All, Contains}
use Rattle.std.proofs.lemmas.List.Elements.{All-head, All-tail, All-contains}
use Rattle.ab_term.specs.Types.{prop, o, olist, arrows}
use Rattle.ab_term.specs.Logical.{nabla, spec_universal, spec_implication, spec_conjunction}
use Rattle.ab_term.specs.Terms.{Nominal, Variable, Head, constant, logical, nominal, variable, index, lam, spine, Terms, no_terms, term, Read}
use Rattle.ab_term.specs.Typing.{Signature, HasType}
use Rattle.ab_term.specs.Names.{rename_head, rename, rename_all, support}
use Rattle.ab_term.specs.Reach.{raise}
use Rattle.ab_term.specs.Substitution.{shift, substitute, lower_index, lower_head}
use Rattle.ab_term.specs.Translation.{forget, EqualPastHints}
use Rattle.ab_term.specs.Variables.{Substitution, variables, value_in, image, image_by, IsTyped}
use Rattle.ab_term.specs.Sameness.{same_number}
use Rattle.ab_term.proofs.ClosedMaps.{IsClosedMap}
use Rattle.ab_term.proofs.Compositions.{image_typed, map_typed}
use Rattle.ab_term.proofs.Depends.{image_rigid}
use Rattle.ab_term.proofs.Images.{closed_map}
use Rattle.ab_term.proofs.Lists.{Contains-none, All-from_contains}
use Rattle.ab_term.proofs.Permuting.{rename_agrees}
use Rattle.ab_term.proofs.Renamings.{rename-shift, rename-substitute, rename_typed}
use Rattle.ab_term.proofs.Standing.{Has}
use Rattle.ab_term.proofs.Stands.{Either, has}
use Rattle.ab_term.proofs.UpToNames.{rename-itself}
use Rattle.ab_unifiers.specs.Replacements.{Cell}
use Rattle.ab_unifiers.specs.Clauses.{Clause, Each}
use Rattle.ab_unifiers.specs.Prefixes.{arguments_of}
use Rattle.ab_unifiers.proofs.Lifting.{OfCells}
use Rattle.ab_unifiers.proofs.Past.{bare, forget-image}
use Rattle.ab_formulas.specs.Programs.{IsProgramClause}
use Rattle.ab_coverage.proofs.IndexedGoals.{in_front, both, open_goal, head_or, lower, lower_all}
use Rattle.ab_coverage.proofs.IndexedSpecClauses.{SpecClause, put_or, filled_in, and_also, closed_in, left_open, spread, atom_with, body_with}
use Rattle.ab_coverage.proofs.IndexedInstances as indexed
use Rattle.ab_coverage.proofs.IndexedInstances.{IsGuess}
use Rattle.ab_coverage.proofs.Cases.{Over, over_logical, over_constant, closed_has, spread_has, blank_has}
use Rattle.ab_coverage.proofs.Clausal.{closed_free, total, drops_total, anything, blank, total_blank, total_typed, guess_shape, guess_typed, spread_guess, MetBy, atoms_met, bodies_met}
use Rattle.ab_coverage.proofs.Conjoined.{asked, asked-forget, asked_typed, asked_has}
use Rattle.ab_coverage.proofs.Covered.{program_part}
use Rattle.ab_coverage.proofs.Demands.{clause_index, clause_right}
use Rattle.ab_coverage.proofs.Filling.{closing, closed_with, dropping, drops, all_unmoved, closed_with_typed, closed-forget}
use Rattle.ab_coverage.proofs.Parts.{raise_has, raise_typed, raise-closed}
use Rattle.ab_coverage.proofs.Sound.{some_values, some_guess, asked_rigid}

-- OTHER CONSTANTS
module _ (m : Nominal → Nominal) where
  head-lowered : (h : Head ℕ) (o : Option (Head ℕ)) → rename_head m (head_or h o) ≡ head_or (rename_head m h) (option_map (rename_head m) o)
  head-lowered h None = refl
  head-lowered h (Some g) = refl

  abbrev as_index : ℕ → Head ℕ
  as_index i = index i

  lowered_index : (p : Option ℕ) → option_map (rename_head m) (option_map as_index p) ≡ option_map as_index p
  lowered_index None = refl
  lowered_index (Some i) = refl

  lowered_head : (k : ℕ) (h : Head ℕ) → option_map (rename_head m) (lower_head k h) ≡ lower_head k (rename_head m h)
  lowered_head k (constant c) = refl
  lowered_head k (logical l) = refl
  lowered_head k (nominal a) = refl
  lowered_head k (variable y) = refl
  lowered_head k (index i) = lowered_index (lower_index k i)

  mutual
    rename-lower : (k : ℕ) (t : Read) → rename m (lower k t) ≡ lower k (rename m t)
    rename-lower k (lam A x t) = ap (lam A x) (rename-lower (suc k) t)
    rename-lower k (spine h ts) =
        ap (λ g. spine g (rename_all m (lower_all k ts))) (head-lowered h (lower_head k h) ∙ ap (head_or (rename_head m h)) (lowered_head k h))
        ∙ ap (spine (head_or (rename_head m h) (lower_head k (rename_head m h)))) (rename_all-lower k ts)

    rename_all-lower : (k : ℕ) (ts : Terms ℕ (List ℕ)) → rename_all m (lower_all k ts) ≡ lower_all k (rename_all m ts)
    rename_all-lower k no_terms = refl
    rename_all-lower k (term t ts) = ap (λ u. term u (rename_all m (lower_all k ts))) (rename-lower k t) ∙ ap (term (lower k (rename m t))) (rename_all-lower k ts)

  rename-put_or : (close : Cell (List ℕ) → Read → Read) → ((b : Cell (List ℕ)) (t : Read) → rename m (close b t) ≡ close b (rename m t)) → (b : Cell (List ℕ)) (v : Option Read) (t : Read) → rename m (put_or close b v t) ≡ put_or close b (option_map (rename m) v) (rename m t)
  rename-put_or close e b None t = e b t
  rename-put_or close e b (Some u) t = rename-substitute m b.type u zero t

  rename-filled : (close : Cell (List ℕ) → Read → Read) → ((b : Cell (List ℕ)) (t : Read) → rename m (close b t) ≡ close b (rename m t)) → (bs : List (Cell (List ℕ))) (vs : List (Option Read)) (t : Read)
      → rename m (filled_in close bs vs t) ≡ filled_in close bs (map (option_map (rename m)) vs) (rename m t)
  rename-filled close e [] vs t = refl
  rename-filled close e (b ∷ bs) [] t = refl
  rename-filled close e (b ∷ bs) (v ∷ vs) t =
      rename-put_or close e b v (filled_in close bs vs t) ∙ ap (put_or close b (option_map (rename m) v)) (rename-filled close e bs vs t)

  rename-open : (L G : Read) → rename m (open_goal L G) ≡ open_goal (rename m L) (rename m G)
  rename-open L (spine (logical (spec_universal A)) (term (lam B x G) no_terms)) =
      ap (λ t. spine (logical (nabla A)) (term (lam A x t) no_terms)) (rename-open (shift zero L) G ∙ ap (λ K. open_goal K (rename m G)) (rename-shift m L zero))
  rename-open L (spine (logical spec_implication) (term F (term G no_terms))) = rename-open (in_front F L) G
  rename-open L (spine (logical spec_conjunction) (term F (term G no_terms))) = ap (λ t. both t (rename m (open_goal L G))) (rename-open L F) ∙ ap (both (open_goal (rename m L) (rename m F))) (rename-open L G)
  rename-open L G = refl

  rename-nameless : (t : Read) → support t ≡ [] → rename m t ≡ t
  rename-nameless t none = rename_agrees m (λ a. a) t (λ a k. absurd (Contains-none a (subst (λ l. Contains l a) none k))) ∙ rename-itself t

  more-renamed : (L F : Read) (Gs : List Read) → All (λ G. (variables G ≡ []) × (support G ≡ [])) Gs → rename m (and_also F (map (open_goal L) Gs)) ≡ and_also (rename m F) (map (open_goal (rename m L)) Gs)
  more-renamed L F [] all = refl
  more-renamed L F (G ∷ Gs) all =
      more-renamed L (both F (open_goal L G)) Gs (All-tail (λ G. (variables G ≡ []) × (support G ≡ [])) G Gs all)
      ∙ ap (λ H. and_also (both (rename m F) H) (map (open_goal (rename m L)) Gs)) (rename-open L G ∙ ap (open_goal (rename m L)) (rename-nameless G (All-head (λ G. (variables G ≡ []) × (support G ≡ [])) G Gs all).1))

  rename-asked : (L : Read) (Gs : List Read) → All (λ G. (variables G ≡ []) × (support G ≡ [])) Gs → rename m (asked L Gs) ≡ asked (rename m L) Gs
  rename-asked L [] all = refl
  rename-asked L (G ∷ Gs) all =
      more-renamed L (open_goal L G) Gs (All-tail (λ G. (variables G ≡ []) × (support G ≡ [])) G Gs all)
      ∙ ap (λ H. and_also H (map (open_goal (rename m L)) Gs)) (rename-open L G ∙ ap (open_goal (rename m L)) (rename-nameless G (All-head (λ G. (variables G ≡ []) × (support G ≡ [])) G Gs all).1))

spread-mapped : (f : Read → Read) (gs : List Bool) (ms : List Read) → map (option_map f) (spread gs ms) ≡ spread gs (map f ms)
spread-mapped f [] ms = refl
spread-mapped f (true ∷ gs) ms = ap (λ l. None ∷ l) (spread-mapped f gs ms)
spread-mapped f (false ∷ gs) [] = ap (λ l. None ∷ l) (spread-mapped f gs [])
spread-mapped f (false ∷ gs) (u ∷ ms) = ap (λ l. Some (f u) ∷ l) (spread-mapped f gs ms)

-- each of the first becomes one of the others
abbrev pub Become : Substitution ℕ (List ℕ) → List Read → List Read → Type 0
Become u ms ws = Each (λ m w. image_by (bare u) (forget m) ≡ forget w) ms ws

pub images_become : (u : Substitution ℕ (List ℕ)) (ms : List Read) → Become u ms (map (image same_number u) ms)
images_become u [] = tt
images_become u (t ∷ ms) = (sym (forget-image u t), images_become u ms)

pub renamed_are : (sg : Signature) (m : Nominal → Nominal) → ((a : Nominal) → (m a).type ≡ a.type) → (cs : List (Cell (List ℕ))) (ms : List Read) → OfCells sg (codes "x") cs ms → OfCells sg (codes "x") cs (map (rename m) ms)
renamed_are sg m keeps [] [] e = tt
renamed_are sg m keeps [] (t ∷ ms) e = absurd e
renamed_are sg m keeps (c ∷ cs) [] e = absurd e
renamed_are sg m keeps (c ∷ cs) (t ∷ ms) e = (rename_typed sg m keeps e.0, renamed_are sg m keeps cs ms e.1)

both_met : (sg : Signature) (u : Substitution ℕ (List ℕ)) (p : IsTyped sg u) (gs : List Bool) (ms ws : List Read) → Become u ms ws → MetBy sg u p (spread gs ms) (spread gs ws)
both_met sg u p [] ms ws e = tt
both_met sg u p (true ∷ gs) ms ws e = (tt, both_met sg u p gs ms ws e)
both_met sg u p (false ∷ gs) [] [] e = (tt, both_met sg u p gs [] [] tt)
both_met sg u p (false ∷ gs) [] (w ∷ ws) e = absurd e
both_met sg u p (false ∷ gs) (t ∷ ms) [] e = absurd e
both_met sg u p (false ∷ gs) (t ∷ ms) (w ∷ ws) e = (e.0, both_met sg u p gs ms ws e.1)

module _ (sg : Signature) (cons : sg (codes "::") ≡ Some (arrows (o ∷ olist ∷ []) olist)) (c : Clause (List ℕ)) (right : IsProgramClause sg c) where
  abbrev x : List ℕ
  x = codes "x"

  abbrev k : SpecClause (List ℕ)
  k = clause_index c

  abbrev fs : List Bool
  fs = closed_in (clause_index c)

  -- the cells of the variables that the rule makes
  abbrev pub own : List (Cell (List ℕ))
  own = left_open (closed_in (clause_index c)) c.variables

  abbrev pub atom_of : List Read → Read
  atom_of ms = atom_with (clause_index c) (spread (closed_in (clause_index c)) ms)

  abbrev pub body_of : Read → List Read → Read
  body_of L ms = body_with L (clause_index c) (spread (closed_in (clause_index c)) ms)

  abbrev pub AreOwn : List Read → Type 0
  AreOwn ms = OfCells sg (codes "x") (left_open (closed_in (clause_index c)) c.variables) ms

  pub is_right : indexed.IsProgramClause sg (clause_index c)
  is_right = clause_right sg c right

  is_guess : (ms : List Read) → AreOwn ms → IsGuess sg fs c.variables (spread fs ms)
  is_guess ms e = spread_guess sg x fs c.variables (some_values sg fs c.variables) ms (guess_shape sg fs c.variables (some_values sg fs c.variables) (some_guess sg c.variables k.goals k.atom)) e

  -- THE ATOM is typed, has a constant for its head, and is over what the terms are over
  pub atom_typed : (ms : List Read) → AreOwn ms → HasType sg [] (atom_of ms) o
  atom_typed ms e =
      let vs = spread fs ms in
      let g = is_guess ms e in
      let t_typed = total_typed sg o c.variables vs (guess_typed sg fs c.variables vs g) in
      subst (λ t. HasType sg [] t o) (sym (drops c.variables vs (total anything c.variables vs) k.atom (drops_total anything fs c.variables vs k.atom (guess_shape sg fs c.variables vs g) (closed_free c.variables k.goals k.atom)) (all_unmoved sg o c.variables (total anything c.variables vs) t_typed)))
      (closed_with_typed sg c.variables (total anything c.variables vs) k.atom t_typed is_right.atom)

  pub atom_over : (S : List Nominal) (V : List (Variable ℕ)) (ms : List Read) → AreOwn ms → All (Has (Over S V)) ms → Has (Over S V) (atom_of ms)
  atom_over S V ms e all =
      let vs = spread fs ms in
      let g = is_guess ms e in
      subst (Has (Over S V)) (sym (drops c.variables vs (total blank c.variables vs) k.atom (drops_total blank fs c.variables vs k.atom (guess_shape sg fs c.variables vs g) (closed_free c.variables k.goals k.atom)) (total_blank prop sg c.variables vs (guess_typed sg fs c.variables vs g))))
      (closed_has (Over S V) (over_logical S V) c.variables (total blank c.variables vs) k.atom (blank_has (Over S V) (over_logical S V) (over_constant S V) c.variables vs (spread_has (Over S V) (over_logical S V) fs ms all)) (program_part sg S V k is_right).atom_has)

  pub body_over : (P : Nominal → Type 0) (Q : Variable ℕ → Type 0) (L : Read) (ms : List Read) → Has (Either P Q) L → All (Has (Either P Q)) ms → Has (Either P Q) (body_of L ms)
  body_over P Q L ms h all =
      let d = length c.variables in
      closed_has (Either P Q) (λ l. tt) c.variables (spread fs ms) (asked (raise d zero L) k.goals) (spread_has (Either P Q) (λ l. tt) fs ms all)
      (asked_has (Either P Q) (λ l. tt) (λ c. tt) (raise d zero L) (raise_has (Either P Q) d L h) k.goals (All-from_contains (Has (Either P Q)) k.goals (λ G m.
      let n = All-contains (λ (G : Read). (variables G ≡ []) × (support G ≡ [])) k.goals G is_right.goals_closed m in
      has P Q G (λ a i. absurd (Contains-none a (subst (λ l. Contains l a) n.1 i))) (λ y i. absurd (Contains-none y (subst (λ l. Contains l y) n.0 i))))))

  head_kept : (p : List ℕ) (bs : List (Cell (List ℕ))) (vs : List (Option Read)) (ts : Terms ℕ (List ℕ)) → (us : Terms ℕ (List ℕ)) × (filled_in dropping bs vs (spine (constant p) ts) ≡ spine (constant p) us)
  head_kept p [] vs ts = (ts, refl)
  head_kept p (b ∷ bs) [] ts = (ts, refl)
  head_kept p (b ∷ bs) (v ∷ vs) ts = go v (head_kept p bs vs ts)
    where
      go : (v : Option Read) → (us : Terms ℕ (List ℕ)) × (filled_in dropping bs vs (spine (constant p) ts) ≡ spine (constant p) us) → (us : Terms ℕ (List ℕ)) × (put_or dropping b v (filled_in dropping bs vs (spine (constant p) ts)) ≡ spine (constant p) us)
      go None r = (lower_all zero r.0, ap (lower zero) r.1)
      go (Some u) r = (arguments_of (substitute b.type u zero (spine (constant p) r.0)), ap (substitute b.type u zero) r.1)

  pub atom_head : (ms : List Read) → (us : Terms ℕ (List ℕ)) × (atom_of ms ≡ spine (constant (is_right.head).0) us)
  atom_head ms =
      let h = is_right.head in
      let r = head_kept h.0 c.variables (spread fs ms) h.1 in
      (r.0, ap (filled_in dropping c.variables (spread fs ms)) h.2 ∙ r.1)

  -- UNDER A SUBSTITUTION
  module _ (u : Substitution ℕ (List ℕ)) (p : IsTyped sg u) (ms ws : List Read) (ms_are : AreOwn ms) (ws_are : AreOwn ws) (become : Become u ms ws) where
    atom_stays : image_by (bare u) (forget k.atom) ≡ forget k.atom
    atom_stays = sym (forget-image u k.atom) ∙ ap forget (image_rigid (value_in same_number u) k.atom (is_right.atom_closed).0)

    pub atoms_become : EqualPastHints (image same_number u (atom_of ms)) (atom_of ws)
    atoms_become =
        atoms_met sg u p fs c.variables (spread fs ms) (spread fs ws) (is_guess ms ms_are) (is_guess ws ws_are) (both_met sg u p fs ms ws become) k.atom k.atom is_right.atom
        (closed_free c.variables k.goals k.atom) (closed_free c.variables k.goals k.atom) atom_stays

    u_closed : IsClosedMap (value_in same_number u)
    u_closed = closed_map sg ℕ (List ℕ) (value_in same_number u) (map_typed sg same_number u p)

    pub bodies_become : (L : Read) → HasType sg [] L olist → EqualPastHints (image same_number u (body_of L ms)) (body_of (image same_number u L) ws)
    bodies_become L l =
        let d = length c.variables in
        let matrix = asked (raise d zero L) k.goals in
        let matrix_typed = asked_typed sg cons (raise d zero L) (raise_typed sg olist c.variables [] L l) k.goals is_right.goals in
        let lists : image same_number u (raise d zero L) ≡ raise d zero (image same_number u L) = ap (image same_number u) (raise-closed sg olist d L l) ∙ sym (raise-closed sg olist d (image same_number u L) (image_typed sg same_number u p l)) in
        bodies_met sg u p fs c.variables (spread fs ms) (spread fs ws) (is_guess ms ms_are) (is_guess ws ws_are) (both_met sg u p fs ms ws become) matrix matrix_typed
        ∙ ap (λ t. forget (closed_with c.variables (spread fs ws) t)) (asked_rigid (value_in same_number u) u_closed (raise d zero L) k.goals is_right.goals_closed ∙ ap (λ K. asked K k.goals) lists)

  -- the list past hints
  pub lists_same : (L M : Read) → HasType sg [] L olist → HasType sg [] M olist → forget L ≡ forget M → (ws : List Read) → EqualPastHints (body_of L ws) (body_of M ws)
  lists_same L M l n e ws =
      let d = length c.variables in
      closed-forget c.variables (spread fs ws) (asked (raise d zero L) k.goals) (asked (raise d zero M) k.goals)
      (asked-forget (raise d zero L) k.goals ∙ ap (λ K. asked K (map forget k.goals)) (ap forget (raise-closed sg olist d L l) ∙ e ∙ ap forget (sym (raise-closed sg olist d M n))) ∙ sym (asked-forget (raise d zero M) k.goals))

  -- WITH OTHER CONSTANTS
  module _ (m : Nominal → Nominal) (keeps : (a : Nominal) → (m a).type ≡ a.type) (ms : List Read) where
    pub atom_renamed : rename m (atom_of ms) ≡ atom_of (map (rename m) ms)
    atom_renamed =
        rename-filled m dropping (λ b t. rename-lower m zero t) c.variables (spread fs ms) k.atom
        ∙ ap (λ l. filled_in dropping c.variables l (rename m k.atom)) (spread-mapped (rename m) fs ms)
        ∙ ap (filled_in dropping c.variables (spread fs (map (rename m) ms))) (rename-nameless m k.atom (is_right.atom_closed).1)

    pub body_renamed : (L : Read) → HasType sg [] L olist → rename m (body_of L ms) ≡ body_of (rename m L) (map (rename m) ms)
    body_renamed L l =
        let d = length c.variables in
        let lists : rename m (raise d zero L) ≡ raise d zero (rename m L) = ap (rename m) (raise-closed sg olist d L l) ∙ sym (raise-closed sg olist d (rename m L) (rename_typed sg m keeps l)) in
        rename-filled m closing (λ b t. refl) c.variables (spread fs ms) (asked (raise d zero L) k.goals)
        ∙ ap (λ l. filled_in closing c.variables l (rename m (asked (raise d zero L) k.goals))) (spread-mapped (rename m) fs ms)
        ∙ ap (filled_in closing c.variables (spread fs (map (rename m) ms))) (rename-asked m (raise d zero L) k.goals is_right.goals_closed ∙ ap (λ K. asked K k.goals) lists)
