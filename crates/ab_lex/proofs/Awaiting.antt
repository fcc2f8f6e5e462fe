-- What is still to be reported of a text, as a function of the bytes that come: it is what the relations say, and a step of
-- a splitter's fields keeps or shortens it.
use Rattle.std.proofs.Common.{◌≡◌, ℕ, Bool, true, false, List, [], ◌∷◌, ◌++◌, drop, Option, Some, None, refl, sym, ap, ◌∙◌, subst, append_assoc}
use Rattle.ab_lex.specs.declared.TheConstants.{COMMAND_LIMIT}
use Rattle.ab_lex.specs.declared.scanner.Mode.TheVariants.{Plain}
use Rattle.ab_lex.specs.declared.scanner.Scan.{Scan}
use Rattle.ab_lex.specs.Scanner.{behind, fresh, blank_from}
use Rattle.ab_lex.specs.Commands.{CommandAt, Item}
use Rattle.ab_lex.specs.PendingText.{Pending, ItemsBehind, no_end, an_end, ItemsFrom, Awaits, SameItems, NextItem, SameRest}
use Rattle.ab_lex.specs.SplitterFields.{bytes_before, view_of, IsReached}
use Rattle.ab_lex.proofs.Found.{items_within, items_behind}
use Rattle.ab_lex.proofs.Unique.{found}
use Rattle.ab_lex.proofs.Exists.{exists}
use Rattle.ab_lex.proofs.Cuts.{items_of, only_items}
use Rattle.ab_lex.proofs.Blanks.{has_blank, blank_has}
use Rattle.ab_lex.proofs.Openings.{behind_before, blank_before}
use Rattle.ab_lex.proofs.Steps.{items_from, rest_is_blank_from}

abbrev pub items_of_text : Bool → List ℕ → List Item
items_of_text false s = items_within COMMAND_LIMIT s
items_of_text true s = items_behind COMMAND_LIMIT (behind Plain s)

-- the items still to be reported, where these bytes are fed too
abbrev pub items_after : Pending → List ℕ → List Item
items_after p more = items_of_text p.in_long (p.text ++ more)

behind_there : (s : List ℕ) (o : Option (List ℕ)) → behind Plain s ≡ o → ItemsBehind s (items_behind COMMAND_LIMIT o)
behind_there s None e = no_end (λ r (c : CommandAt s r). let f : Some r ≡ None = sym (found c) ∙ e in cc)
behind_there s (Some r) e = an_end (exists s r e) (items_of COMMAND_LIMIT r)

none_behind : (s : List ℕ) (o : Option (List ℕ)) → behind Plain s ≡ o → ((r : List ℕ) → ¬ CommandAt s r) → [] ≡ items_behind COMMAND_LIMIT o
none_behind s None e n = refl
none_behind s (Some r) e n = absurd (n r (exists s r e))

behind_only : {s : List ℕ} {is : List Item} → ItemsBehind s is → is ≡ items_behind COMMAND_LIMIT (behind Plain s)
behind_only (no_end {s = s} n) = none_behind s (behind Plain s) refl n
behind_only (an_end {r = r} {is = is} c h) = only_items COMMAND_LIMIT r is h ∙ ap (items_behind COMMAND_LIMIT) (sym (found c))

from_there : (b : Bool) (s : List ℕ) → ItemsFrom b s (items_of_text b s)
from_there false s = items_of COMMAND_LIMIT s
from_there true s = behind_there s (behind Plain s) refl

from_only : (b : Bool) (s : List ℕ) (is : List Item) → ItemsFrom b s is → is ≡ items_of_text b s
from_only false s is h = only_items COMMAND_LIMIT s is h
from_only true s is h = behind_only h

pub awaits_there : (p : Pending) (more : List ℕ) → Awaits p more (items_after p more)
awaits_there p more = from_there p.in_long (p.text ++ more)

pub awaits_only : (p : Pending) (more : List ℕ) (is : List Item) → Awaits p more is → is ≡ items_after p more
awaits_only p more is h = from_only p.in_long (p.text ++ more) is h

-- from the function to the relations, and back
module _ (p q : Pending) where
  pub same_items : ((more : List ℕ) → items_after q more ≡ items_after p more) → SameItems p q
  same_items e more is h = subst (λ i. Awaits p more i) (sym (awaits_only q more is h ∙ e more)) (awaits_there p more)

  pub next_item : (item : Item) → ((more : List ℕ) → items_after p more ≡ item ∷ items_after q more) → NextItem p item q
  next_item item e more is h = subst (λ i. Awaits p more i) (e more ∙ ap (λ i. item ∷ i) (sym (awaits_only q more is h))) (awaits_there p more)

  pub items_same : SameItems p q → (more : List ℕ) → items_after q more ≡ items_after p more
  items_same h more = awaits_only p more (items_after q more) (h more (items_after q more) (awaits_there q more))

  pub items_next : (item : Item) → NextItem p item q → (more : List ℕ) → items_after p more ≡ item ∷ items_after q more
  items_next item h more = sym (awaits_only p more (item ∷ items_after q more) (h more (items_after q more) (awaits_there q more)))

  pub same_rest : ((more : List ℕ) → blank_from fresh (q.text ++ more) ≡ blank_from fresh (p.text ++ more)) → SameRest p q
  same_rest e more = (λ h. has_blank (q.text ++ more) (e more ∙ blank_has (p.text ++ more) h), λ h. has_blank (p.text ++ more) (sym (e more) ∙ blank_has (q.text ++ more) h))

pub none_awaited : (p : Pending) → items_after p [] ≡ [] → Awaits p [] []
none_awaited p e = subst (λ i. Awaits p [] i) e (awaits_there p [])

pub items_none : (p : Pending) → Awaits p [] [] → items_after p [] ≡ []
items_none p h = sym (awaits_only p [] [] h)

-- a piece was fed
pub items_fed : (p q : Pending) (bytes : List ℕ) → q.text ≡ p.text ++ bytes → q.in_long ≡ p.in_long → (more : List ℕ) → items_after q more ≡ items_after p (bytes ++ more)
items_fed p q bytes e f more =
    ap (λ b. items_of_text b (q.text ++ more)) f ∙ (ap (λ s. items_of_text p.in_long (s ++ more)) e ∙ ap (items_of_text p.in_long) (append_assoc p.text bytes more))

-- one step behind another
pub rest_behind : (p q r : Pending) → SameRest p q → SameRest q r → SameRest p r
rest_behind p q r f g more = (λ h. (g more).0 ((f more).0 h), λ h. (f more).1 ((g more).1 h))

-- a splitter's fields, seen from outside
view_items : (buffer : List ℕ) (start : ℕ) (scan : Scan) (skips : Bool) → (skips ≡ true → IsReached scan) → (more : List ℕ) → items_after (view_of buffer start scan skips) more ≡ items_from skips scan (drop start buffer ++ more)
view_items buffer start scan false i more = refl
view_items buffer start scan true i more =
    ap (λ s. items_behind COMMAND_LIMIT (behind Plain s)) (append_assoc (bytes_before scan) (drop start buffer) more) ∙ ap (items_behind COMMAND_LIMIT) (behind_before scan (drop start buffer ++ more) (i refl))

view_blank : (buffer : List ℕ) (start : ℕ) (scan : Scan) (skips : Bool) → (skips ≡ true → IsReached scan) → (more : List ℕ) → blank_from fresh ((view_of buffer start scan skips).text ++ more) ≡ rest_is_blank_from skips scan (drop start buffer ++ more)
view_blank buffer start scan false i more = refl
view_blank buffer start scan true i more =
    ap (blank_from fresh) (append_assoc (bytes_before scan) (drop start buffer) more) ∙ blank_before scan (drop start buffer ++ more) (i refl)

module _ (buffer : List ℕ) (start : ℕ) (scan : Scan) (skips : Bool) (p : Pending) (is : view_of buffer start scan skips ≡ p) (i : skips ≡ true → IsReached scan) where
  items_here : (more : List ℕ) → items_after p more ≡ items_from skips scan (drop start buffer ++ more)
  items_here more = ap (λ q. items_after q more) (sym is) ∙ view_items buffer start scan skips i more

  pub blank_here : (more : List ℕ) → blank_from fresh (p.text ++ more) ≡ rest_is_blank_from skips scan (drop start buffer ++ more)
  blank_here more = ap (λ (q : Pending). blank_from fresh (q.text ++ more)) (sym is) ∙ view_blank buffer start scan skips i more

  pub none_here : items_from skips scan (drop start buffer ++ []) ≡ [] → Awaits p [] []
  none_here e = none_awaited p (items_here [] ∙ e)

  module _ (end : ℕ) (scan' : Scan) (skips' : Bool) (j : skips' ≡ true → IsReached scan') where
    pub same_here : ((more : List ℕ) → items_from skips' scan' (drop end buffer ++ more) ≡ items_from skips scan (drop start buffer ++ more)) → SameItems p (view_of buffer end scan' skips')
    same_here e = same_items p (view_of buffer end scan' skips') (λ more. view_items buffer end scan' skips' j more ∙ (e more ∙ sym (items_here more)))

    pub next_here : (item : Item) → ((more : List ℕ) → items_from skips scan (drop start buffer ++ more) ≡ item ∷ items_from skips' scan' (drop end buffer ++ more)) → NextItem p item (view_of buffer end scan' skips')
    next_here item e = next_item p (view_of buffer end scan' skips') item (λ more. items_here more ∙ (e more ∙ ap (λ q. item ∷ q) (sym (view_items buffer end scan' skips' j more))))

    pub rest_here : ((more : List ℕ) → rest_is_blank_from skips' scan' (drop end buffer ++ more) ≡ rest_is_blank_from skips scan (drop start buffer ++ more)) → SameRest p (view_of buffer end scan' skips')
    rest_here e = same_rest p (view_of buffer end scan' skips') (λ more. view_blank buffer end scan' skips' j more ∙ (e more ∙ sym (blank_here more)))
