-- Files that are read one after another, and loads one after another: first some, then others.
use Rattle.std.proofs.Common.{◌≡◌, ℕ, List, [], ◌∷◌, ◌++◌, map, refl, ap, sym, ◌∙◌, subst, append_assoc, append-nil}
use Rattle.std.proofs.lemmas.List.{map-append}
use Rattle.ab_lex.specs.declared.token.Token.{Token as Lexed}
use Rattle.ab_grammar.specs.declared.file.FileKind.{FileKind}
use Rattle.ab_grammar.specs.declared.file.FileKind.TheVariants.{Signature, Module}
use Rattle.ab_grammar.specs.FileTrees.{Item, kinds, constants, clause, accumulation}
use Rattle.ab_syntax.specs.declared.spec_item.SpecItem.{SpecItem}
use Rattle.ab_syntax.specs.declared.spec_item.SpecItem.TheVariants.{Kind, Typed, Clause as AClause}
use Rattle.ab_syntax.specs.FileItems.{own_item_of}
use Rattle.ab_sigmod.specs.FileNames.{File}
use Rattle.ab_sigmod.specs.FileTexts.{ItemRead, none_yet, one_more}
use Rattle.ab_sigmod.specs.FileLoads.{FilesSeen, Load, AreLoads, no_load, then_load}
use Rattle.ab_sigmod.specs.FileOrder.{Progress, Fault, own, asked, asked_by, AreRead, none, again, once, AreFaulty, at_one}
use Rattle.ab_sigmod.specs.Readings.{Reads, Refuses, ReadSoFar, AreUnread, no_files}

-- Lists

pub asked_on : (k : FileKind) (xs ys : List (List ℕ)) → asked k (xs ++ ys) ≡ asked k xs ++ asked k ys
asked_on k [] ys = refl
asked_on Signature (x ∷ xs) ys = ap (λ (fs : List File). record { base = x; kind = Signature } ∷ fs) (asked_on Signature xs ys)
asked_on Module (x ∷ xs) ys = ap (λ (fs : List File). record { base = x; kind = Signature } ∷ record { base = x; kind = Module } ∷ fs) (asked_on Module xs ys)

pub asked_by_on : (k : FileKind) (is js : List Item) → asked_by k (is ++ js) ≡ asked_by k is ++ asked_by k js
asked_by_on k [] js = refl
asked_by_on k (accumulation xs ∷ is) js = ap (λ (fs : List File). asked k xs ++ fs) (asked_by_on k is js) ∙ sym (append_assoc (asked k xs) (asked_by k is) (asked_by k js))
asked_by_on k (kinds xs ∷ is) js = asked_by_on k is js
asked_by_on k (constants xs a ∷ is) js = asked_by_on k is js
asked_by_on k (clause c ∷ is) js = asked_by_on k is js

own_on : (is js : List Item) → own (is ++ js) ≡ own is ++ own js
own_on [] js = refl
own_on (accumulation xs ∷ is) js = own_on is js
own_on (kinds xs ∷ is) js = ap (λ (v : List Item). kinds xs ∷ v) (own_on is js)
own_on (constants xs a ∷ is) js = ap (λ (v : List Item). constants xs a ∷ v) (own_on is js)
own_on (clause c ∷ is) js = ap (λ (v : List Item). clause c ∷ v) (own_on is js)

-- Loads

pub loads_on : {s t u : FilesSeen} {ls ms : List Load} → AreLoads s ls t → AreLoads t ms u → AreLoads s (ls ++ ms) u
loads_on {s = s} {t = t} {ls = ls} a no_load = subst (λ (ks : List Load). AreLoads s ks t) (sym (append-nil ls)) a
loads_on {s = s} {u = u} {ls = ls} a (then_load {ls = ms} {l = l} b c) = subst (λ (ks : List Load). AreLoads s ks u) (append_assoc ls ms (l ∷ [])) (then_load (loads_on a b) c)

-- Files

pub read_on : {chain fs gs : List File} {p q r : Progress} {ls ms : List Load} → AreRead chain fs p ls q → AreRead chain gs q ms r → AreRead chain (fs ++ gs) p (ls ++ ms) r
read_on {chain = chain} {fs = fs} {p = p} {q = q} {ls = ls} a none =
    subst (λ (hs : List File). AreRead chain hs p (ls ++ []) q) (sym (append-nil fs)) (subst (λ (ks : List Load). AreRead chain fs p ks q) (sym (append-nil ls)) a)
read_on {chain = chain} {fs = fs} {p = p} {r = r} {ls = ls} {ms = ms} a (again {f = f} {fs = gs} b n w) = subst (λ (hs : List File). AreRead chain hs p (ls ++ ms) r) (append_assoc fs gs (f ∷ [])) (again (read_on a b) n w)
read_on {chain = chain} {fs = fs} {p = p} {r = r} {ls = ls} a (once {f = f} {fs = gs} {ls = ms} {ms = ns} b i) =
    subst (λ (hs : List File). AreRead chain hs p (ls ++ (ms ++ ns)) r) (append_assoc fs gs (f ∷ []))
    (subst (λ (ks : List Load). AreRead chain ((fs ++ gs) ++ f ∷ []) p ks r) (append_assoc ls ms ns) (once (read_on a b) i))

pub faulty_on : {chain fs gs : List File} {p q : Progress} {ls ms : List Load} {t : Fault} → AreRead chain fs p ls q → AreFaulty chain gs q ms t → AreFaulty chain (fs ++ gs) p (ls ++ ms) t
faulty_on {chain = chain} {fs = fs} {gs = gs} {p = p} {ls = ls} {t = t} a (at_one {done = done} later {f = f} {ls = ms} {ms = ns} e b i) =
    subst (λ (ks : List Load). AreFaulty chain (fs ++ gs) p ks t) (append_assoc ls ms ns) (at_one later (ap (λ (hs : List File). fs ++ hs) e ∙ sym (append_assoc fs done (f ∷ later))) (read_on a b) i)

module _ (chain : List File) (p : Progress) (s : FilesSeen) where
  pub nothing_read : Reads chain [] p s s p
  nothing_read = record { loads = []; asked = no_load; are_read = none }

  module _ {fs : List File} {t : FilesSeen} {q : Progress} (a : Reads chain fs p s t q) where
    pub reads_on : {gs : List File} {u : FilesSeen} {r : Progress} → Reads chain gs q t u r → Reads chain (fs ++ gs) p s u r
    reads_on b = record { loads = a.loads ++ b.loads; asked = loads_on a.asked b.asked; are_read = read_on a.are_read b.are_read }

    pub refuses_on : {gs : List File} {u : FilesSeen} {f : Fault} → Refuses chain gs q t u f → Refuses chain (fs ++ gs) p s u f
    refuses_on b = record { loads = a.loads ++ b.loads; asked = loads_on a.asked b.asked; are_faulty = faulty_on a.are_read b.are_faulty }

-- files that are asked for behind those that can't be read aren't looked at
pub refuses_more : {chain fs : List File} {p : Progress} {s t : FilesSeen} {f : Fault} (gs : List File) → Refuses chain fs p s t f → Refuses chain (fs ++ gs) p s t f
refuses_more {chain = chain} {fs = fs} {p = p} {f = f} gs a = record { loads = a.loads; asked = a.asked; are_faulty = more a.are_faulty }
  where
    more : {ls : List Load} → AreFaulty chain fs p ls f → AreFaulty chain (fs ++ gs) p ls f
    more (at_one {done = done} later {f = g} e b i) = at_one (later ++ gs) (ap (λ (hs : List File). hs ++ gs) e ∙ append_assoc done (g ∷ later) gs) b i

-- Items

asks_nothing : (k : FileKind) (i : SpecItem) → asked_by k (own_item_of i ∷ []) ≡ []
asks_nothing k (Kind xs) = refl
asks_nothing k (Typed xs a) = refl
asks_nothing k (AClause c) = refl

own_itself : (i : SpecItem) → own (own_item_of i ∷ []) ≡ own_item_of i ∷ []
own_itself (Kind xs) = refl
own_itself (Typed xs a) = refl
own_itself (AClause c) = refl

module _ (x bytes : List ℕ) (k : FileKind) (ts : List Lexed) (chain : List File) (p : Progress) (s : FilesSeen) where
  pub no_items : ReadSoFar bytes k ts chain p s s p [] ts
  no_items = record { written = []; read = none_yet; declared = refl; files = nothing_read chain p s }

  module _ {t : FilesSeen} {q : Progress} {items : List SpecItem} {us vs : List Lexed} (a : ReadSoFar bytes k ts chain p s t q items us) where
    pub with_own : (i : SpecItem) (js : List SpecItem) → js ≡ items ++ i ∷ [] → ItemRead bytes k us (own_item_of i) vs → ReadSoFar bytes k ts chain p s t q js vs
    with_own i js e r = record {
      written = a.written ++ own_item_of i ∷ [];
      read = one_more a.read r;
      declared = own_on a.written (own_item_of i ∷ []) ∙ ap (λ (v : List Item). own a.written ++ v) (own_itself i) ∙ ap (λ (v : List Item). v ++ own_item_of i ∷ []) a.declared ∙ sym (ap (map own_item_of) e ∙ map-append own_item_of items (i ∷ []));
      files = subst (λ (fs : List File). Reads chain fs p s t q) (sym (asked_by_on k a.written (own_item_of i ∷ []) ∙ ap (λ (fs : List File). asked_by k a.written ++ fs) (asks_nothing k i) ∙ append-nil (asked_by k a.written))) a.files;
    }

    module _ (xs : List (List ℕ)) (r : ItemRead bytes k us (accumulation xs) vs) where
      asks_them : asked_by k a.written ++ asked k xs ≡ asked_by k (a.written ++ accumulation xs ∷ [])
      asks_them = sym (asked_by_on k a.written (accumulation xs ∷ []) ∙ ap (λ (fs : List File). asked_by k a.written ++ fs) (append-nil (asked k xs)))

      pub with_files : {u : FilesSeen} {w : Progress} → Reads chain (asked k xs) q t u w → ReadSoFar bytes k ts chain p s u w items vs
      with_files {u = u} {w = w} b = record {
        written = a.written ++ accumulation xs ∷ [];
        read = one_more a.read r;
        declared = own_on a.written (accumulation xs ∷ []) ∙ append-nil (own a.written) ∙ a.declared;
        files = subst (λ (fs : List File). Reads chain fs p s u w) asks_them (reads_on chain p s a.files b);
      }

      pub without_files : {u : FilesSeen} {f : Fault} → Refuses chain (asked k xs) q t u f → AreUnread x bytes k ts chain p s u f
      without_files {u = u} {f = f} b = no_files (one_more a.read r) (subst (λ (fs : List File). Refuses chain fs p s u f) asks_them (refuses_on chain p s a.files b))
