-- One file: it is read, or it can't be, by what was found of its chain, its name, its load and its text.
use Rattle.std.proofs.Common.{◌≡◌, ◌<◌, ◌+◌, ℕ, List, [], ◌∷◌, ◌++◌, map, take, drop, Contains, refl, ap, sym, ◌∙◌}
use Rattle.std.proofs.lemmas.List.{take-append-drop}
use Rattle.ab_lex.specs.declared.token.Token.{Token as Lexed}
use Rattle.ab_grammar.specs.FileTrees.{Item}
use Rattle.ab_syntax.specs.declared.spec_item.SpecItem.{SpecItem}
use Rattle.ab_sigmod.specs.FileNames.{File, name_of}
use Rattle.ab_sigmod.specs.FileTexts.{TextFault, Titled, Begins, ItemsRead, IsFaulty, no_item as no_item_in}
use Rattle.ab_io.specs.Loads.{Answer, loaded}
use Rattle.ab_sigmod.specs.FileLoads.{FilesSeen, Load, IsLoad, AreLoads, no_load, then_load}
use Rattle.ab_sigmod.specs.FileOrder.{Progress, Fault, text_fault, circular, too_many_files, limit, IsRefusal, GoesRound, WasRead, IsNew, load_of, one_loaded, behind_all, none, again, once, is_read, at_one, IsUnreadable, goes_round, is_one_more, isnt_loaded, in_its_text, at_a_place}
use Rattle.ab_sigmod.specs.Readings.{Reads, Refuses, ReadSoFar, AreUnread, no_item, no_files}
use Rattle.ab_sigmod.proofs.Appending.{loads_on}

module _ (chain : List File) (f : File) (p : Progress) (s : FilesSeen) where
  refused_so : {ls : List Load} {t : FilesSeen} {e : Fault} → AreLoads s ls t → IsUnreadable chain f p ls e → Refuses chain (f ∷ []) p s t e
  refused_so {ls = ls} a i = record { loads = ls; asked = a; are_faulty = at_one {done = []} [] refl none i }

  pub round : (i : ℕ) → drop i chain ≡ f ∷ drop (i + 1) chain → (names : List (List ℕ)) → names ≡ map (λ g. g.base) (drop i chain) ++ f.base ∷ [] → Refuses chain (f ∷ []) p s s (circular names)
  round i e names n =
      let circle : GoesRound chain f names = record {
        before = take i chain;
        behind = drop (i + 1) chain;
        whole = sym (take-append-drop i chain) ∙ ap (λ (gs : List File). take i chain ++ gs) e;
        names_are = n ∙ ap (λ (gs : List File). map (λ g. g.base) gs ++ f.base ∷ []) e;
      } in
      refused_so no_load (goes_round circle)

  module _ (no_circle : ¬ Contains chain f) where
    pub read_before : WasRead p f → Reads chain (f ∷ []) p s s p
    read_before w = record { loads = []; asked = no_load; are_read = again none no_circle w }

    module _ (not_read : ¬ WasRead p f) where
      pub too_many : p.loads ≡ limit → Refuses chain (f ∷ []) p s s (too_many_files (name_of f))
      too_many e = refused_so no_load (is_one_more no_circle not_read e)

      module _ (within : p.loads < limit) where
        new : IsNew chain p f
        new = record { no_circle = no_circle; not_read = not_read; within = within }

        pub no_bytes : {t : FilesSeen} (a : Answer) (e : Fault) → IsLoad s (load_of f a) t → IsRefusal (name_of f) a e → Refuses chain (f ∷ []) p s t e
        no_bytes a e l r = refused_so (then_load no_load l) (isnt_loaded new r)

        module _ {t : FilesSeen} (bytes : List ℕ) (l : IsLoad s (load_of f (loaded bytes)) t) where
          with_load : {ls : List Load} {u : FilesSeen} → AreLoads t ls u → AreLoads s (load_of f (loaded bytes) ∷ ls) u
          with_load a = loads_on (then_load no_load l) a

          pub no_text : (e : TextFault) → IsFaulty bytes f [] e → Refuses chain (f ∷ []) p s t (text_fault (name_of f) e)
          no_text e i = refused_so (with_load no_load) (in_its_text new i none)

          module _ {ts : List Lexed} (titled : Titled bytes f ts) where
            begins : {is : List Item} {us : List Lexed} → ItemsRead bytes f.kind ts is us → Begins bytes f is us
            begins r = record { first = ts; titled = titled; items = r }

            pub unread : {u : FilesSeen} (e : Fault) → AreUnread (name_of f) bytes f.kind ts (chain ++ f ∷ []) (one_loaded p) t u e → Refuses chain (f ∷ []) p s u e
            unread _ (no_item {us = us} {e = e} a n) = refused_so (with_load a.files.asked) (in_its_text new (no_item_in (begins a.read) n.some_left n.divided n.refused) a.files.are_read)
            unread e (no_files r a) = refused_so (with_load a.asked) (at_a_place new (begins r) a.are_faulty)

            pub whole : {u : FilesSeen} {q : Progress} {items : List SpecItem} (a : ReadSoFar bytes f.kind ts (chain ++ f ∷ []) (one_loaded p) t u q items []) → Reads chain (f ∷ []) p s u (behind_all q f a.written)
            whole a = record { loads = load_of f (loaded bytes) ∷ a.files.loads; asked = with_load a.files.asked; are_read = once none (is_read new (begins a.read) a.files.are_read) }
