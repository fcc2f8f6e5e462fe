-- Whether one of the kept commands read a specification.
use Rattle.std.proofs.Common.{◌≡◌, ◌||◌, Bool, List, [], ◌∷◌, ◌++◌, map, reverse, Option, Some, None, is_some, option_map, refl, sym, ◌∙◌, ap}
use Rattle.std.specs.List.{list_any}
use Rattle.std.proofs.lemmas.List.{reverse-append, reverse-reverse, map-append}
use Rattle.ab_sigmod.specs.declared.spec.Spec.{Spec}
use Rattle.ab_sigmod.specs.Outcomes.{files_of}
use Rattle.ab_states.specs.State.{Entry}
use Rattle.ab_session.specs.declared.command_history.Kept.{Kept}
use Rattle.ab_session.specs.Contents.{Past, past_of, entry_of, entries_of}
use Rattle.ab_session.proofs.Origins.{pasts}

abbrev pub has_files : Kept → Bool
has_files k = is_some k.spec

-- in the order in which they were put
in_order : (ps : List Past) → entries_of ps ≡ map entry_of (reverse ps)
in_order [] = refl
in_order (p ∷ ps) =
    ap (λ (es : List Entry). es ++ entry_of p ∷ []) (in_order ps)
    ∙ sym (ap (map entry_of) (reverse-append (p ∷ []) ps) ∙ map-append entry_of (reverse ps) (p ∷ []))

some_spec : (o : Option Spec) → is_some (option_map files_of o) ≡ is_some o
some_spec None = refl
some_spec (Some x) = refl

any_kept : (ks : List Kept) → list_any (λ (e : Entry). is_some e.specification) (map entry_of (map past_of ks)) ≡ list_any has_files ks
any_kept [] = refl
any_kept (k ∷ ks) =
    ap (λ b. b || list_any (λ (e : Entry). is_some e.specification) (map entry_of (map past_of ks))) (some_spec k.spec)
    ∙ ap (λ b. is_some k.spec || b) (any_kept ks)

pub any_of : (ks : List Kept) → list_any (λ (e : Entry). is_some e.specification) (entries_of (pasts ks)) ≡ list_any has_files ks
any_of ks =
    ap (list_any (λ (e : Entry). is_some e.specification)) (in_order (reverse (map past_of ks)) ∙ ap (map entry_of) (reverse-reverse (map past_of ks)))
    ∙ any_kept ks
