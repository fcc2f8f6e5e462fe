-- Pruning, carried out: names, flags, and what stands in the parts of a term.
use Rattle.std.proofs.Common.{◌≡◌, ℕ, ◌<◌, List, [], ◌∷◌, ◌++◌, map, length, Bool, true, false, cond, ◌&&◌, ◌||◌, ◌==◌, Some, refl, sym, ◌∙◌, ap, subst}
use Rattle.std.specs.Prelude.{All, Contains}
use Rattle.std.specs.List.{list_all}
use Rattle.std.specs.Cmp.{unsigned_Decides}
use Rattle.std.proofs.lemmas.Bool.{false≢true}
use Rattle.std.proofs.lemmas.List.Elements.{All-nil, All-cons, All-head, All-tail, All-weaker, All-contains, Contains-append_left, Contains-append_right}
use Rattle.ab_term.specs.Types.{Ty, kind}
use Rattle.ab_term.specs.Terms as tree
use Rattle.ab_term.specs.Terms.{Variable, Term, Terms, lam, spine, no_terms, term, terms_of, Read}
use Rattle.ab_term.specs.Typing.{Signature, HasType, TakeType, typed_lam, typed_spine, take_term}
use Rattle.ab_term.specs.Variables.{variables, variables_of_head, variables_of_all}
use Rattle.ab_term.specs.Abstraction.{among, is_name}
use Rattle.ab_term.proofs.Lists.{Contains-here, Contains-there, Contains-map, Contains-from_map, All-from_contains}
use Rattle.ab_norm.specs.ab_types.specs.Entries.{Table, IsExtendedBy as IsPartOf}
use Rattle.ab_norm.specs.ab_types.proofs.Entries.{same_type}
use Rattle.ab_norm.specs.ab_store.specs.declared.node.TermId.{TermId}
use Rattle.ab_norm.specs.ab_store.specs.declared.node.CellId.{CellId}
use Rattle.ab_norm.specs.ab_store.specs.declared.node.CellEntry.{CellEntry}
use Rattle.ab_norm.specs.ab_store.specs.declared.node.Head.{Head}
use Rattle.ab_norm.specs.ab_store.specs.declared.node.Head.TheVariants.{Const, Logic, Nominal, Cell, Index}
use Rattle.ab_norm.specs.ab_store.specs.Trees.{Contents, head_in, tree_of, head_reading}
use Rattle.ab_norm.specs.ab_store.specs.Reading.{bound_in, reading, cell_variable}
use Rattle.ab_norm.specs.ab_store.specs.Bindings.{cells_of, IsUnbound, IsResolved}
use Rattle.ab_norm.specs.ab_store.specs.Naming.{HeadIsTyped}
use Rattle.ab_norm.specs.ab_store.proofs.Cells.{stands, numbered}
use Rattle.ab_norm.specs.ab_store.proofs.Putting.{resolved_reads}
use Rattle.ab_norm.specs.NodeGrowth.{AddsTypedTerms}
use Rattle.ab_patterns.specs.ab_unifiers.specs.Replacements.{Change, holds, pruned_names, pruned, pruned_all, narrowed}
use Rattle.ab_patterns.specs.ab_unifiers.proofs.Avoiding.{AreNames as AllNames}
use Rattle.ab_unify.specs.Problem.{cell_read}
use Rattle.ab_unify.specs.StoreChanges.{IsFree, Changed, AllUnbound, IsName, AreNames}
use Rattle.ab_unify.proofs.Growth.{grows_on, grows_terms}
use Rattle.ab_unify.proofs.Listed.{one_test, same_cell}
use Rattle.ab_unify.proofs.Put.{same_variables}

-- a change stays carried out while terms are added
pub changed_on : (T : Table) (S : Contents) (F : List CellId) (c : Change (List ℕ)) (types : Table) (store now : Contents) (flexible : List CellId) → Changed T S F c types store flexible → AddsTypedTerms types store now → Changed T S F c types now flexible
changed_on T S F c types store now flexible was adds =
    let fresh : (d : CellId) → IsFree store d → IsFree now d = λ d fr. (adds.before.cell_ids d fr.0, ap (λ bs. bound_in bs d) adds.before.bindings ∙ fr.1) in
    record {
      start = was.start;
      grows = grows_on T types types S store now was.grows (grows_terms types store now adds);
      safe = was.safe;
      cells = ap (map (cell_read types)) adds.cells ∙ was.cells;
      still = same_variables types store now adds.cells flexible ∙ was.still;
      free = All-weaker (IsFree store) (IsFree now) fresh flexible was.free;
      reads = λ G t A is. adds.before.readings types t (was.grows.trees t is.0).0 ∙ was.reads G t A is;
      others = λ d fr out. let older = was.others d fr out in (fresh d older.0, older.1);
      left = λ d fr which. was.left d (subst (λ cs. d.0 < length cs) adds.cells fr.0, ap (λ bs. bound_in bs d) (sym adds.before.bindings) ∙ fr.1) which;
    }

pub free_on : (types : Table) (store now : Contents) → AddsTypedTerms types store now → (ds : List CellId) → All (IsFree store) ds → All (IsFree now) ds
free_on types store now adds ds all = All-weaker (IsFree store) (IsFree now) (λ d fr. (adds.before.cell_ids d fr.0, ap (λ bs. bound_in bs d) adds.before.bindings ∙ fr.1)) ds all

-- heads depend on the cells alone
pub same_heads : (types : Table) (store now : Contents) → now.cells ≡ store.cells → (hs : List Head) → map (head_reading types now) hs ≡ map (head_reading types store) hs
same_heads types store now e hs = ap (λ cs. map (head_in types cs) hs) e

-- names depend on their types alone
name_reads : (T more : Table) (C D : List CellEntry) (h : Head) → HeadIsTyped T h → IsName h → head_in (T ++ more) D h ≡ head_in T C h
name_reads T more C D (Const c) t n = absurd n
name_reads T more C D (Logic l) t n = absurd n
name_reads T more C D (Nominal i a) t n = ap (λ A. tree.nominal (record { number = i; type = A })) (same_type T more a t)
name_reads T more C D (Cell c) t n = absurd n
name_reads T more C D (Index i) t n = refl

names_read : (T more : Table) (C D : List CellEntry) (hs : List Head) → AreNames T hs → map (head_in (T ++ more) D) hs ≡ map (head_in T C) hs
names_read T more C D [] all = refl
names_read T more C D (h ∷ hs) all =
    let first = All-head (λ h. HeadIsTyped T h × IsName h) h hs all in
    ap (λ g. g ∷ map (head_in (T ++ more) D) hs) (name_reads T more C D h first.0 first.1)
    ∙ ap (λ l. head_in T C h ∷ l) (names_read T more C D hs (All-tail (λ h. HeadIsTyped T h × IsName h) h hs all))

pub same_names : (T U : Table) (S V : Contents) → IsPartOf T U → (hs : List Head) → AreNames T hs → map (head_reading U V) hs ≡ map (head_reading T S) hs
same_names T U S V part hs all = subst (λ X. map (head_in X V.cells) hs ≡ map (head_in T S.cells) hs) (sym part.1) (names_read T part.0 S.cells V.cells hs all)

pub typed_names : (T : Table) (hs : List Head) → AreNames T hs → All (HeadIsTyped T) hs
typed_names T hs all = All-weaker (λ h. HeadIsTyped T h × IsName h) (HeadIsTyped T) (λ h n. n.0) hs all

pub is_name_read : (T : Table) (S : Contents) (h : Head) → IsName h → is_name (head_reading T S h) ≡ true
is_name_read T S (Const c) n = absurd n
is_name_read T S (Logic l) n = absurd n
is_name_read T S (Nominal i a) n = refl
is_name_read T S (Cell c) n = absurd n
is_name_read T S (Index i) n = refl

pub are_read_names : (T : Table) (S : Contents) (hs : List Head) → AreNames T hs → All (λ h. is_name (head_reading T S h) ≡ true) hs
are_read_names T S hs all = All-weaker (λ h. HeadIsTyped T h × IsName h) (λ h. is_name (head_reading T S h) ≡ true) (λ h n. is_name_read T S h n.1) hs all

pub is_name_then : (T : Table) (S : Contents) (h : Head) → is_name (head_reading T S h) ≡ true → IsName h
is_name_then T S (Const c) n = absurd (false≢true n)
is_name_then T S (Logic l) n = absurd (false≢true n)
is_name_then T S (Nominal i a) n = tt
is_name_then T S (Cell c) n = absurd (false≢true n)
is_name_then T S (Index i) n = tt

-- what reads as names, are names
pub names_then : (T : Table) (S : Contents) (hs : List Head) → All (HeadIsTyped T) hs → AllNames (map (head_reading T S) hs) → AreNames T hs
names_then T S [] t n = All-nil (λ h. HeadIsTyped T h × IsName h)
names_then T S (h ∷ hs) t n = All-cons (λ h. HeadIsTyped T h × IsName h) h hs (All-head (HeadIsTyped T) h hs t, is_name_then T S h n.0) (names_then T S hs (All-tail (HeadIsTyped T) h hs t) n.1)

-- flags, all of which are set or not
pub flags_are : (f : tree.Head ℕ → Bool) (bs : List (tree.Head ℕ)) → list_all (λ b. b) (map f bs) ≡ list_all f bs
flags_are f [] = refl
flags_are f (b ∷ bs) = ap (λ k. f b && k) (flags_are f bs)

pub names_kept : (names bs : List (tree.Head ℕ)) (keep : List Bool) (b : Bool) → keep ≡ map (among names) bs → list_all (λ k. k) keep ≡ b → list_all (among names) bs ≡ b
names_kept names bs keep b is e = sym (flags_are (among names) bs) ∙ ap (list_all (λ k. k)) (sym is) ∙ e

pub pruned_whole : (x : List ℕ) (names bs : List (tree.Head ℕ)) (y : Variable ℕ) (c : Change (List ℕ)) → list_all (among names) bs ≡ true → c ≡ pruned_names x names y (Some bs) c
pruned_whole x names bs y c e = sym (ap (λ b. cond b c (narrowed x y bs (map (among names) bs) c)) e)

pub pruned_some : (x : List ℕ) (names bs : List (tree.Head ℕ)) (y : Variable ℕ) (c : Change (List ℕ)) → list_all (among names) bs ≡ false → narrowed x y bs (map (among names) bs) c ≡ pruned_names x names y (Some bs) c
pruned_some x names bs y c e = sym (ap (λ b. cond b c (narrowed x y bs (map (among names) bs) c)) e)

-- a cell that reads as one of the listed is listed
pub listed_if : (types : Table) (store : Contents) (ds : List CellId) (c : CellId) → holds (map (cell_variable types store) ds) (cell_variable types store c) ≡ true → Contains ds c
listed_if types store [] c e = absurd (false≢true e)
listed_if types store (d ∷ ds) c e = go (d.0 == c.0) refl (ap (λ k. k || holds (map (cell_variable types store) ds) (cell_variable types store c)) (sym (one_test types store d c)) ∙ e) (listed_if types store ds c)
  where
    go : (b : Bool) → (d.0 == c.0) ≡ b → (b || holds (map (cell_variable types store) ds) (cell_variable types store c)) ≡ true → (holds (map (cell_variable types store) ds) (cell_variable types store c) ≡ true → Contains ds c) → Contains (d ∷ ds) c
    go true f g rest = subst (Contains (d ∷ ds)) (same_cell d c ((unsigned_Decides d.0 c.0).0 f)) (Contains-here d ds)
    go false f g rest = Contains-there d ds c (rest g)

-- terms without bound cells, by their variables
pub resolved_unbound : (types : Table) (s : Contents) (t : TermId) → IsResolved s t → AllUnbound s (tree_of types s t)
resolved_unbound types s t clear y m = All-contains (IsUnbound s) (cells_of s t) (record { 0 = y.name }) clear (stands types s (record { 0 = y.name }) t (Contains-map (λ (x : Variable ℕ). x.name) (variables (tree_of types s t)) y m))

pub unbound_resolved : (types : Table) (s : Contents) (t : TermId) → AllUnbound s (tree_of types s t) → IsResolved s t
unbound_resolved types s t clear = All-from_contains (IsUnbound s) (cells_of s t) (λ c m.
    let found = Contains-from_map (λ (x : Variable ℕ). x.name) (variables (tree_of types s t)) c.0 (numbered types s c t m) in
    subst (IsUnbound s) (ap (λ (n : ℕ). record { 0 = n }) found.2) (clear found.0 found.1))

pub unbound_reads : (types : Table) (s : Contents) (t : TermId) → AllUnbound s (tree_of types s t) → reading types s t ≡ tree_of types s t
unbound_reads types s t clear = resolved_reads types s t (unbound_resolved types s t clear)

-- the variables of arguments are the spine's
pub args_unbound : (types : Table) (S : Contents) (f : TermId → Read) (h : tree.Head ℕ) (ts : List TermId) → AllUnbound S (spine h (terms_of (map f ts))) → All (λ t. AllUnbound S (f t)) ts
args_unbound types S f h ts clear = each ts (λ y m. clear y (Contains-append_right (variables_of_head h) (variables_of_all (terms_of (map f ts))) y m))
  where
    each : (us : List TermId) → ((y : Variable ℕ) → Contains (variables_of_all (terms_of (map f us))) y → IsUnbound S (record { 0 = y.name })) → All (λ t. AllUnbound S (f t)) us
    each [] clear = All-nil (λ t. AllUnbound S (f t))
    each (u ∷ us) clear = All-cons (λ t. AllUnbound S (f t)) u us
        (λ y m. clear y (Contains-append_left (variables (f u)) (variables_of_all (terms_of (map f us))) y m))
        (each us (λ y m. clear y (Contains-append_right (variables (f u)) (variables_of_all (terms_of (map f us))) y m)))

-- how parts of typed terms are typed
pub lam_typed : (sg : Signature) (G : List Ty) (A T : Ty) (x : List ℕ) (t : Read) → HasType sg G (lam A x t) T → (B : Ty) × HasType sg (A ∷ G) t B
lam_typed sg G A T x t (typed_lam {B = B} d) = (B, d)

pub spine_typed : (sg : Signature) (G : List Ty) (T : Ty) (h : tree.Head ℕ) (ts : Terms ℕ (List ℕ)) → HasType sg G (spine h ts) T → (D : Ty) × (B : Ty) × TakeType sg G ts D B
spine_typed sg G T h ts (typed_spine {A = D} {k = k} e ds) = (D, kind k, ds)

pub args_typed : (sg : Signature) (G : List Ty) (f : TermId → Read) (ts : List TermId) (A B : Ty) → TakeType sg G (terms_of (map f ts)) A B → All (λ t. (C : Ty) × HasType sg G (f t) C) ts
args_typed sg G f [] A B d = All-nil (λ t. (C : Ty) × HasType sg G (f t) C)
args_typed sg G f (t ∷ ts) A B (take_term {A = C} {B = D} d ds) = All-cons (λ t. (C : Ty) × HasType sg G (f t) C) t ts (C, d) (args_typed sg G f ts D B ds)

-- one term more is pruned
pub pruned_next : (x : List ℕ) (ys : List (Variable ℕ)) (names : List (tree.Head ℕ)) (f : TermId → Read) (ts : List TermId) (t : TermId) (c : Change (List ℕ)) → pruned_all x ys names (terms_of (map f (ts ++ t ∷ []))) c ≡ pruned x ys names (f t) (pruned_all x ys names (terms_of (map f ts)) c)
pruned_next x ys names f [] t c = refl
pruned_next x ys names f (u ∷ us) t c = pruned_next x ys names f us t (pruned x ys names (f u) c)

-- trees of ids that both stores hold
pub same_trees : (f g : TermId → Read) (ts : List TermId) → All (λ t. f t ≡ g t) ts → map f ts ≡ map g ts
same_trees f g [] all = refl
same_trees f g (t ∷ ts) all = ap (λ u. u ∷ map f ts) (All-head (λ t. f t ≡ g t) t ts all) ∙ ap (λ l. g t ∷ l) (same_trees f g ts (All-tail (λ t. f t ≡ g t) t ts all))
