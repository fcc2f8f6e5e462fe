use Rattle.std.proofs.Common.{◌≡◌, inl, inr, true, false, ℕ, List, [], Some, None, if◌then◌else◌, map, string_bytes, sym, ◌∙◌, ap, subst}
use Rattle.std.specs.Prelude.{option_map}
use Rattle.std.specs.Borrow.{Bor}
use Rattle.clap.specs.declared.error.kind.ErrorKind.TheVariants as kind
use Rattle.clap.specs.Words.{App, HasKind, kind_of, found_of, fault_of, is_simple, is_simple_and_free, matches_of}
use Rattle.clap.specs.Walk.{is_empty}
use Rattle.ab_line.specs.Command.{simple_command}
use Rattle.ab_line.specs.Requests.{options_in}
use Rattle.ab_line.proofs.Numbers.{simple_and_free, simple, number_given, options_are, no_options}
use Rattle.ab_line.proofs.words.read_options.Goals as goal

pub drill_size-requires : goal.drill_size-requires
drill_size-requires c = number_given c.in-Ok.command c.in-Ok.ensures c.in-Ok-try_get_matches_from.matches c.in-Ok-try_get_matches_from.ensures.parsed

pub returns-in-Ok-try_get_matches_from-clause-options : goal.returns-in-Ok-try_get_matches_from-clause-options
returns-in-Ok-try_get_matches_from-clause-options c =
    let ws : List (List ℕ) = map string_bytes c.args.words.now in
    let app = c.in-Ok.ensures in
    let call = c.in-Ok-try_get_matches_from.ensures in
    let no_fault : fault_of simple_command ws ≡ [] = subst (λ (a : App). fault_of a ws ≡ []) app (call.kinds (ap is_simple_and_free app ∙ simple_and_free)) in
    let rows = (call.matches (ap is_simple app ∙ simple)).0 ∙ ap (λ (a : App). matches_of a ws) app in
    ap (λ ks. if is_empty ks then Some (options_in (matches_of simple_command ws)) else None) no_fault
    ∙ ap (λ rs. Some (options_in rs)) (sym rows)
    ∙ ap Some (options_are (found_of c.in-Ok-try_get_matches_from.matches) c.is_given.result c.drill_size.result c.is_given-in-Ok-try_get_matches_from.result (option_map (λ (s : Bor (List ℕ)). s.now) c.get_str.result) c.is_given.ensures c.drill_size.ensures.number c.is_given-in-Ok-try_get_matches_from.ensures c.get_str.ensures)

pub returns-clause-refused : goal.returns-clause-refused
returns-clause-refused c = λ e.
    let ws : List (List ℕ) = map string_bytes c.args.words.now in
    let app = c.in-Ok.ensures in
    let among = subst (λ (a : App). HasKind (fault_of a ws) c.in-Err.error) app (c.in-Err.ensures.kinds (ap is_simple_and_free app ∙ simple_and_free)) in
    elim among [ inl memory ↦ absurd (not_memory memory) | inr k ↦ no_options (kind_of c.in-Err.error) (fault_of simple_command ws) (options_in (matches_of simple_command ws)) k ]
  where
    not_memory : kind_of c.in-Err.error ≡ kind.OutOfMemory → ⊥
    not_memory memory =
        let so : c.eq.result ≡ true = rw (c.kind.ensures ∙ memory) at c.eq.ensures in
        let bad : false ≡ true = sym c.if-eq.false ∙ so in
        cc
