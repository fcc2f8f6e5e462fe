use Rattle.std.proofs.Common.{◌≡◌, List, [], map, ap}
use Rattle.std.proofs.lemmas.Result.{err_from_is_err_and}
use Rattle.ab_sigmod.specs.declared.spec.SpecFile.{SpecFile}
use Rattle.ab_sigmod.specs.FileOrder.{Progress, beginning}
use Rattle.ab_sigmod.specs.Outcomes.{read_of}
use Rattle.ab_sigmod.specs.Readings.{file_of}
use Rattle.ab_sigmod.proofs.BothFiles.{no_signature_told, no_module_told, both_told}
use Rattle.ab_sigmod.proofs.spec_files.read_spec.Goals as goal

-- how far reading has come, by the files that were read
abbrev progress : List SpecFile → Progress
progress fs = record { loads = 0; files = map read_of fs }

pub returns-in_err-read_file-clause-refused : goal.returns-in_err-read_file-clause-refused
returns-in_err-read_file-clause-refused g c =
    let e = err_from_is_err_and c.from_residual.result c.from_residual.ensures.1 in
    let none_open : map file_of c.new.result.items ≡ [] = ap (map file_of) c.new.ensures.items in
    let at_first : progress c.new-2.result.items ≡ beginning = ap progress c.new-2.ensures.items in
    rw (e.1, e.2) (λ f h. no_signature_told c.args.name.now _ _ none_open _ at_first (c.in_err-read_file.ensures.read f h))

pub returns-in_err-read_file-2-clause-refused : goal.returns-in_err-read_file-2-clause-refused
returns-in_err-read_file-2-clause-refused g c =
    let e = err_from_is_err_and c.from_residual-in_err-read_file-2.result c.from_residual-in_err-read_file-2.ensures.1 in
    let none_open : map file_of c.new.result.items ≡ [] = ap (map file_of) c.new.ensures.items in
    let at_first : progress c.new-2.result.items ≡ beginning = ap progress c.new-2.ensures.items in
    let s = c.in_ok-read_file.ensures in
    rw (e.1, e.2) (λ f h. no_module_told c.args.name.now _ _ none_open _ at_first s.read _ s.open (c.in_err-read_file-2.ensures.read f h))

pub returns-clause-read : goal.returns-clause-read
returns-clause-read g c =
    let none_open : map file_of c.new.result.items ≡ [] = ap (map file_of) c.new.ensures.items in
    let at_first : progress c.new-2.result.items ≡ beginning = ap progress c.new-2.ensures.items in
    let s = c.in_ok-read_file.ensures in
    both_told c.args.name.now _ _ none_open _ at_first s.read _ s.open c.read_file-2.new.reading.files.items c.in_ok-read_file-2.ensures.read _ c.from_vec.ensures
