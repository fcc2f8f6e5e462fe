-- What the table's model needs: entries as trees of numbers, one to one.
use Rattle.std.specs.Prelude.{◌≡◌, ℕ, List}
use Rattle.std.proofs.Common.{ap, ◌∙◌}
use base.Stored.{Gv, gnum, gcons}
use Rattle.std.specs.Coded.{Coded, coded_ℕ, coded_list}
use Rattle.ab_term.specs.Codes.{coded_type}
use Rattle.ab_types.specs.Entries.{Entry, a_kind, a_type, a_constant, Table}

abbrev bytes_code : Coded (List ℕ)
bytes_code = coded_list coded_ℕ

abbrev of_entry : Entry → Gv
of_entry (a_kind k) = gcons (gnum 0) (bytes_code.code k)
of_entry (a_type A) = gcons (gnum 1) (coded_type.code A)
of_entry (a_constant c) = gcons (gnum 2) (gcons (bytes_code.code c.name) (coded_type.code c.type))

pub entry_inj : (d e : Entry) → of_entry d ≡ of_entry e → d ≡ e
entry_inj (a_kind k) (a_kind l) p = ap a_kind (bytes_code.inj k l (cc))
entry_inj (a_kind k) (a_type B) p = cc
entry_inj (a_kind k) (a_constant d) p = cc
entry_inj (a_type A) (a_kind l) p = cc
entry_inj (a_type A) (a_type B) p = ap a_type (coded_type.inj A B (cc))
entry_inj (a_type A) (a_constant d) p = cc
entry_inj (a_constant c) (a_kind l) p = cc
entry_inj (a_constant c) (a_type B) p = cc
entry_inj (a_constant c) (a_constant d) p =
    let same_name : c.name ≡ d.name = bytes_code.inj c.name d.name (cc) in
    let same_type : c.type ≡ d.type = coded_type.inj c.type d.type (cc) in
    ap (λ n. a_constant (record { name = n; type = c.type })) same_name ∙ ap (λ A. a_constant (record { name = d.name; type = A })) same_type

abbrev pub entry_code : Coded Entry
entry_code = record { code = of_entry; inj = entry_inj }

abbrev pub table_code : Coded Table
table_code = coded_list entry_code
