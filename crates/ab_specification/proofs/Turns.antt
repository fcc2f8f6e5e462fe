-- Items that are declared one after another, up to the first that is refused.
use Rattle.std.specs.Prelude.{Option, Some, Result, Ok, Err, IfOk}
use Rattle.std.specs.declared.alloc.AllocError.{AllocError}
use Rattle.std.proofs.Common.{◌≡◌, ℕ, ◌+◌, ◌<◌, List, [], ◌∷◌, ◌++◌, map, suc, length, get_or, drop, refl, sym, ap, ◌∙◌, subst, append_assoc, append-nil, drop-cons, add-one}
use Rattle.ab_syntax.specs.declared.spec_item.SpecItem.{SpecItem}
use Rattle.ab_syntax.specs.FileItems.{own_item_of}
use Rattle.ab_formulas.specs.Declarations.{Declarations}
use Rattle.ab_logic.specs.Worlds.{declarations_of}
use Rattle.ab_logic.specs.declared.world.World.{World}
use Rattle.ab_sigmod.specs.declared.spec.SpecFile.{SpecFile}
use Rattle.ab_sigmod.specs.Outcomes.{read_of}
use Rattle.ab_declare.specs.declared.refusal.Refusal.{Refusal}
use Rattle.ab_specification.specs.ItemDeclarations.{ItemDeclares, ItemDeclines}
use Rattle.ab_specification.specs.FileDeclarations.{PlacedItem, clauses_in, placed_items, items_of, in_file, AllDeclare, no_item, one_more, FirstDeclines, this}
use Rattle.ab_specification.specs.ItemAnswers.{DeclaresMore, ItemsAnswer}
use Rattle.ab_specification.proofs.OneSpecification.{declare_on, decline_on, decline_before}

-- of all items those up to here are declared, and these are behind them
pub record SoFar (old now : World) (all behind : List PlacedItem) : Type 0 where
  pub before : List PlacedItem
  pub whole : all ≡ before ++ behind
  pub more : Declarations
  pub declares : AllDeclare (declarations_of old) before more
  pub declared : declarations_of now ≡ declarations_of old ++ more

pub none_yet : (w : World) (all : List PlacedItem) → SoFar w w all all
none_yet w all = record { before = []; whole = refl; more = []; declares = no_item; declared = sym (append-nil (declarations_of w)) }

module _ (old now : World) (all : List PlacedItem) where
  pub items_more : (new : World) (is js : List PlacedItem) → SoFar old now all (is ++ js) → DeclaresMore (λ D. AllDeclare D is) now new → SoFar old new all js
  items_more new is js s d = record {
    before = s.before ++ is;
    whole = s.whole ∙ sym (append_assoc s.before is js);
    more = s.more ++ d.more;
    declares = declare_on (declarations_of old) s.before is s.more d.more s.declares (subst (λ D. AllDeclare D is d.more) s.declared d.fact);
    declared = d.declared ∙ (ap (λ D. D ++ d.more) s.declared ∙ append_assoc (declarations_of old) s.more d.more);
  }

  pub item_more : (new : World) (i : PlacedItem) (is : List PlacedItem) → SoFar old now all (i ∷ is) → DeclaresMore (λ D. ItemDeclares D i.item) now new → SoFar old new all is
  item_more new i is s d =
      items_more new (i ∷ []) is s (record { more = d.more; fact = subst (AllDeclare (declarations_of now) (i ∷ [])) (append-nil d.more) (one_more d.fact no_item); declared = d.declared })

  pub items_refused : (is js : List PlacedItem) (r : Refusal) → SoFar old now all (is ++ js) → FirstDeclines (declarations_of now) is r → FirstDeclines (declarations_of old) all r
  items_refused is js r s f =
      subst (λ xs. FirstDeclines (declarations_of old) xs r) (sym s.whole)
      (decline_on (declarations_of old) s.before (is ++ js) s.more r s.declares (subst (λ D. FirstDeclines D (is ++ js) r) s.declared (decline_before (declarations_of now) is js r f)))

  pub item_refused : (i : PlacedItem) (is : List PlacedItem) (r : Refusal) → SoFar old now all (i ∷ is) → ItemDeclines (declarations_of now) i.clauses_before i.item r → FirstDeclines (declarations_of old) all (in_file i.file r)
  item_refused i is r s f = items_refused (i ∷ []) is (in_file i.file r) s (this f)

  pub all_more : SoFar old now all [] → DeclaresMore (λ D. AllDeclare D all) old now
  all_more s = record { more = s.more; fact = subst (λ xs. AllDeclare (declarations_of old) xs s.more) (sym (s.whole ∙ append-nil s.before)) s.declares; declared = s.declared }

-- the items of a file from one on
pub placed_from : (file : List ℕ) (n : ℕ) (xs : List SpecItem) (i : ℕ) (x : SpecItem) → i < length xs → x ≡ get_or xs i x
    → placed_items file n (map own_item_of (drop i xs)) ≡ record { file = file; clauses_before = n; item = own_item_of x } ∷ placed_items file (n + clauses_in (own_item_of x)) (map own_item_of (drop (i + 1) xs))
placed_from file n xs i x l is =
    ap (λ ys. placed_items file n (map own_item_of ys)) (drop-cons xs i x l)
    ∙ (ap (λ y. placed_items file n (map own_item_of (y ∷ drop (suc i) xs))) (sym is)
    ∙ ap (λ j. placed_items file n (map own_item_of (x ∷ drop j xs))) (sym (add-one i)))

-- the items of files from one on
pub items_from : (fs : List SpecFile) (i : ℕ) (f : SpecFile) → i < length fs → f ≡ get_or fs i f
    → items_of (map read_of (drop i fs)) ≡ placed_items f.name 0 (read_of f).items ++ items_of (map read_of (drop (i + 1) fs))
items_from fs i f l is =
    ap (λ gs. items_of (map read_of gs)) (drop-cons fs i f l)
    ∙ (ap (λ g. items_of (map read_of (g ∷ drop (suc i) fs))) (sym is)
    ∙ ap (λ j. items_of (map read_of (f ∷ drop j fs))) (sym (add-one i)))

-- the refusal that is told
pub refused_answer : (old new : World) (all : List PlacedItem) (r : Refusal) (o : Result (Option Refusal) AllocError) → IfOk o (λ p. p ≡ Some r) → FirstDeclines (declarations_of old) all r → IfOk o (ItemsAnswer old new all)
refused_answer old new all r (Ok p) is f = subst (ItemsAnswer old new all) (sym is) f
refused_answer old new all r (Err m) is f = tt
