-- A new table is one.
use Rattle.std.proofs.Common.{◌≡◌, ℕ, List, [], refl, arith, subst, sym}
use Rattle.ab_term.specs.Constants.{names}
use Rattle.ab_types.specs.Entries.{kinds, types, constants, first_entries}
use Rattle.ab_types.specs.Sound.{IsTable}
use Rattle.ab_types.specs.Layout.{table_of, Kept, IsKept}
use Rattle.ab_types.specs.declared.ids.TypeView.{TypeView}
use Rattle.ab_types.specs.declared.columns.Sort.{Sort}
use Rattle.ab_types.specs.Builtin.{first_kinds, first_views, first_kept, first_sorts}
use Rattle.ab_types.proofs.Members.{different_list}

pub first_is_table : IsTable first_entries
first_is_table = record {
  begins = ([], refl);
  kinds_differ = different_list (kinds first_entries) ((λ e. cc, (λ e. cc, tt)), ((λ e. cc, tt), (tt, tt)));
  types_differ = different_list (types first_entries) ((λ e. cc, (λ e. cc, (λ e. cc, (λ e. cc, (λ e. cc, (λ e. cc, tt)))))), ((λ e. cc, (λ e. cc, (λ e. cc, (λ e. cc, (λ e. cc, tt))))), ((λ e. cc, (λ e. cc, (λ e. cc, (λ e. cc, tt)))), ((λ e. cc, (λ e. cc, (λ e. cc, tt))), ((λ e. cc, (λ e. cc, tt)), ((λ e. cc, tt), (tt, tt)))))));
  constants_differ = different_list (names (constants first_entries)) ((λ e. cc, (λ e. cc, tt)), ((λ e. cc, tt), (tt, tt)));
}

pub first_table : table_of first_sorts first_kinds first_views first_kept ≡ first_entries
first_table = refl

pub first_is_kept : IsKept first_sorts first_kinds first_views first_kept
first_is_kept = record {
  fits = (refl, refl, refl);
  stand = (tt, (tt, (tt, (omega arith, (omega arith, (omega arith, ((omega arith, omega arith), ((omega arith, omega arith), ((omega arith, omega arith), ((omega arith, omega arith), (omega arith, (omega arith, (omega arith, tt)))))))))))));
  table = first_is_table;
}

-- as its four lists were made
pub made : (ss : List Sort) (ks : List (List ℕ)) (vs : List TypeView) (cs : List Kept) → ks ≡ first_kinds → vs ≡ first_views → cs ≡ first_kept → ss ≡ first_sorts → IsKept ss ks vs cs
made ss ks vs cs e f g h = subst (λ l. IsKept l ks vs cs) (sym h) (subst (λ l. IsKept first_sorts l vs cs) (sym e) (subst (λ l. IsKept first_sorts first_kinds l cs) (sym f) (subst (IsKept first_sorts first_kinds first_views) (sym g) first_is_kept)))
