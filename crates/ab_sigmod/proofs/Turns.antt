-- One turn of the reader of items: an item of the file's own, files at its place, or a sentence that is no item.
use Rattle.std.proofs.Common.{◌≡◌, ◌<◌, ℕ, List, [], ◌∷◌, ◌++◌, Option, Some, None, Ok, Err, refl, ap, sym, ◌∙◌, subst}
use Rattle.ab_lex.specs.declared.token.Token.{Token as Lexed}
use Rattle.ab_grammar.specs.declared.file.FileKind.{FileKind}
use Rattle.ab_grammar.specs.FileTrees.{accumulation}
use Rattle.ab_syntax.specs.ab_expressions.specs.declared.items.Items.{Items}
use Rattle.ab_syntax.specs.ab_expressions.specs.declared.fault.ParseFault.{ParseFault}
use Rattle.ab_syntax.specs.declared.spec_item.SpecItem.{SpecItem}
use Rattle.ab_syntax.specs.declared.spec_item.FileItem.{FileItem}
use Rattle.ab_syntax.specs.declared.spec_item.FileItem.TheVariants.{Own, Accumulation}
use Rattle.ab_syntax.specs.ab_expressions.specs.Items.{list_of}
use Rattle.ab_syntax.specs.FileItems.{own_item_of}
use Rattle.ab_sigmod.specs.declared.file_text.TextStop.{TextStop}
use Rattle.ab_sigmod.specs.declared.text.FileText.{FileText}
use Rattle.ab_sigmod.specs.FileNames.{File}
use Rattle.ab_sigmod.specs.FileTexts.{TextFault, ItemRead}
use Rattle.ab_sigmod.specs.FileLoads.{FilesSeen}
use Rattle.ab_sigmod.specs.FileOrder.{Progress, Fault, text_fault, asked}
use Rattle.ab_sigmod.specs.Texts.{fault_of, stop_of, unread, Unread, IsNextItem}
use Rattle.ab_sigmod.specs.Readings.{fault_in, Reads, Refuses, ReadSoFar, AreUnread, no_item}
use Rattle.ab_sigmod.proofs.Appending.{with_own, with_files, without_files}

module _ (k : FileKind) (old new : FileText) (bytes : List ℕ) (same : old.bytes.items ≡ bytes) (o : Option FileItem) (n : IsNextItem k old new (Ok o)) where
  own_read : (i : SpecItem) → o ≡ Some (Own i) → ItemRead bytes k (unread old) (own_item_of i) (unread new)
  own_read i h =
      let r : ItemRead old.bytes.items k (unread old) (own_item_of i) (unread new) × (old.here < new.here) = subst (λ (z : Option FileItem). IsNextItem k old new (Ok z)) h n in
      subst (λ (bs : List ℕ). ItemRead bs k (unread old) (own_item_of i) (unread new)) same r.0

  accumulation_read : (ns : Items (List ℕ)) → o ≡ Some (Accumulation ns) → ItemRead bytes k (unread old) (accumulation (list_of ns)) (unread new)
  accumulation_read ns h =
      let r : ItemRead old.bytes.items k (unread old) (accumulation (list_of ns)) (unread new) × (old.here < new.here) = subst (λ (z : Option FileItem). IsNextItem k old new (Ok z)) h n in
      subst (λ (bs : List ℕ). ItemRead bs k (unread old) (accumulation (list_of ns)) (unread new)) same r.0

module _ (x bytes : List ℕ) (k : FileKind) (ts : List Lexed) (chain : List File) (p : Progress) (s : FilesSeen) (old new : FileText) (same : old.bytes.items ≡ bytes) {t : FilesSeen} {q : Progress} {items : List SpecItem} (a : ReadSoFar bytes k ts chain p s t q items (unread old)) where
  pub own_turn : (o : Option FileItem) → IsNextItem k old new (Ok o) → (i : SpecItem) → o ≡ Some (Own i) → (js : List SpecItem) → js ≡ items ++ i ∷ [] → ReadSoFar bytes k ts chain p s t q js (unread new)
  own_turn o n i h js e = with_own x bytes k ts chain p s a i js e (own_read k old new bytes same o n i h)

  module _ (o : Option FileItem) (n : IsNextItem k old new (Ok o)) (ns : Items (List ℕ)) (h : o ≡ Some (Accumulation ns)) (ys : List (List ℕ)) (are : ys ≡ list_of ns) (here : List File) (on : here ≡ chain) where
    pub files_turn : {u : FilesSeen} {w : Progress} → Reads here (asked k ys) q t u w → ReadSoFar bytes k ts chain p s u w items (unread new)
    files_turn {u = u} {w = w} b =
        with_files x bytes k ts chain p s a (list_of ns) (accumulation_read k old new bytes same o n ns h)
        (subst (λ (c : List File). Reads c (asked k (list_of ns)) q t u w) on (subst (λ (zs : List (List ℕ)). Reads here (asked k zs) q t u w) are b))

    pub no_files_turn : {u : FilesSeen} {f : Fault} → Refuses here (asked k ys) q t u f → AreUnread x bytes k ts chain p s u f
    no_files_turn {u = u} {f = f} b =
        without_files x bytes k ts chain p s a (list_of ns) (accumulation_read k old new bytes same o n ns h)
        (subst (λ (c : List File). Refuses c (asked k (list_of ns)) q t u f) on (subst (λ (zs : List (List ℕ)). Refuses here (asked k zs) q t u f) are b))

  by_text : (o : Option TextFault) → ((e : TextFault) → o ≡ Some e → Unread old.bytes.items k (unread old) e) → (f : Fault) → fault_in x o ≡ Some f → AreUnread x bytes k ts chain p s t f
  by_text None g f h = absurd (cc)
  by_text (Some y) g f h =
      let is : text_fault x y ≡ f = cc in
      subst (AreUnread x bytes k ts chain p s t) is (no_item a (subst (λ (bs : List ℕ). Unread bs k (unread old) y) same (g y refl)))

  pub no_item_turn : (fault : ParseFault) → IsNextItem k old new (Err fault) → (name : List ℕ) → name ≡ x → (stop : TextStop) → stop ≡ stop_of fault → (told : Option Fault) → told ≡ fault_in name (fault_of stop)
      → (f : Fault) → told ≡ Some f → AreUnread x bytes k ts chain p s t f
  no_item_turn fault n name is_name stop is_stop told is_told f h =
      by_text (fault_of (stop_of fault)) n f
      (sym (is_told ∙ ap (λ (y : List ℕ). fault_in y (fault_of stop)) is_name ∙ ap (λ (z : TextStop). fault_in x (fault_of z)) is_stop) ∙ h)
