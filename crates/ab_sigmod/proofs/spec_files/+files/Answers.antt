use Rattle.std.proofs.Common.{◌≡◌, ◌≢◌, ◌<◌, ℕ, List, Some, Vec, length, refl, ap, sym, ◌∙◌, arith, rules}
use Rattle.std.specs.Global.{Global}
use Rattle.std.proofs.lemmas.Result.{err_from_is_err_and}
use Rattle.std.specs.List.{Contains}
use Rattle.ab_grammar.specs.declared.file.FileKind.TheVariants.{Module}
use Rattle.ab_syntax.specs.declared.spec_item.FileItem.TheVariants.{Own, Accumulation}
use Rattle.ab_sigmod.specs.declared.progress.OpenFile.{OpenFile}
use Rattle.ab_sigmod.specs.FileNames.{File}
use Rattle.ab_sigmod.specs.FileOrder.{WasRead, limit}
use Rattle.ab_sigmod.specs.Texts.{fault_of as text_fault_of}
use Rattle.ab_sigmod.specs.Readings.{file_of, chain_of, progress_of}
use Rattle.ab_sigmod.proofs.Appending.{nothing_read, no_items}
use Rattle.ab_sigmod.proofs.Asking.{signature_read, signature_refused, module_read, module_refused}
use Rattle.ab_sigmod.proofs.OneFile.{read_before}
use Rattle.ab_sigmod.proofs.OpenFiles.{opened, closed, round_told, too_many_told, no_bytes_told, no_text_told, unread_told, whole_told}
use Rattle.ab_sigmod.proofs.Sentences.{to_end}
use Rattle.ab_sigmod.proofs.Turns.{own_turn, files_turn, no_files_turn, no_item_turn}
use Rattle.ab_sigmod.proofs.spec_files.+files.Goals as goal
use Rattle.ab_sigmod.proofs.spec_files.+files.Goals.{read_all-then-eq+in_ok-read_file-2, read_all-else-eq}

-- the files of names

pub read_all-loop-name-init : goal.read_all-loop-name-init
read_all-loop-name-init g t c = (nothing_read (chain_of c.args.reading.now) (progress_of c.args.reading.now) _, refl, omega arith)

pub read_all-returns-in_err-read_file-clause-read : goal.read_all-returns-in_err-read_file-clause-read
read_all-returns-in_err-read_file-clause-read g t c =
    let r = c.args.reading.now in
    let l = c.loop-name.invariant in
    let e = err_from_is_err_and c.from_residual.result c.from_residual.ensures.1 in
    rw (e.1, e.2) (λ f h. signature_refused (chain_of r) (progress_of r) _ c.args.kind c.args.names.now c.loop-name.name-index c.name-item.result c.loop-name-test.true c.name-item.is l.0 _ l.1 (c.in_err-read_file.ensures.read f h))

pub read_all-returns-in_err-read_file-2-clause-read : goal.read_all-returns-in_err-read_file-2-clause-read
read_all-returns-in_err-read_file-2-clause-read g t c =
    let r = c.args.reading.now in
    let l = c.loop-name.invariant in
    let e = err_from_is_err_and c.from_residual-in_err-read_file-2.result c.from_residual-in_err-read_file-2.ensures.1 in
    let k : c.args.kind ≡ Module = search rules in
    rw (e.1, e.2) (λ f h. module_refused (chain_of r) (progress_of r) _ c.args.kind c.args.names.now c.loop-name.name-index c.name-item.result c.loop-name-test.true c.name-item.is l.0 _ l.1 k c.in_ok-read_file.ensures.read _ c.in_ok-read_file.ensures.open (c.in_err-read_file-2.ensures.read f h))

pub read_all-loop-name-preserved : goal.read_all-loop-name-preserved
read_all-loop-name-preserved g t c =
    let r = c.args.reading.now in
    let l = c.loop-name.invariant in
    let s = c.in_ok-read_file.ensures in
    elim c.if-eq.branch [
      | read_all-then-eq+in_ok-read_file-2 w ↦
          let m = w.in_ok-read_file-2.ensures in
          let k : c.args.kind ≡ Module = search rules in
          rw (w.reading-is, w.files-is) (module_read (chain_of r) (progress_of r) _ c.args.kind c.args.names.now c.loop-name.name-index c.name-item.result c.loop-name-test.true c.name-item.is l.0 _ l.1 k s.read _ s.open m.read, m.open ∙ s.open ∙ l.1, omega (arith, l.2, s.grows, m.grows))
      | read_all-else-eq w ↦
          let k : c.args.kind ≢ Module = search rules in
          rw (w.reading-is, w.files-is) (signature_read (chain_of r) (progress_of r) _ c.args.kind c.args.names.now c.loop-name.name-index c.name-item.result c.loop-name-test.true c.name-item.is l.0 _ l.1 k s.read, s.open ∙ l.1, omega (arith, l.2, s.grows))
    ]

-- the items of a file

pub read_items-loop-items-init : goal.read_items-loop-items-init
read_items-loop-items-init g t c =
    let r = c.args.reading.now in
    (c.requires, refl, rw c.new-items.ensures.items (no_items c.args.name.now c.args.text.bytes.items c.args.kind _ (chain_of r) (progress_of r) _), refl, omega arith)

pub read_items-loop-items-preserved-in_ok-add-in-Ok-Some-Own : goal.read_items-loop-items-preserved-in_ok-add-in-Ok-Some-Own
read_items-loop-items-preserved-in_ok-add-in-Ok-Some-Own g t c =
    let l = c.loop-items.invariant in
    let same = ap (λ (v : Vec ℕ Global). v.items) l.1 in
    let n = c.in-Ok-Some-Own.ensures in
    let is : c.in-Ok-Some-Own.field-0 ≡ Some (Own c.in-Ok-Some-Own.item) = cc in
    (n.usable, n.bytes ∙ l.1, own_turn c.args.name.now c.args.text.bytes.items c.args.kind _ _ _ _ c.loop-items.text c.next_item.new.text same l.2 c.in-Ok-Some-Own.field-0 n.item c.in-Ok-Some-Own.item is _ c.in_ok-add-in-Ok-Some-Own.ensures, l.3, l.4)

pub read_items-returns-in_err-read_all-in-Ok-Some-Accumulation-clause-read : goal.read_items-returns-in_err-read_all-in-Ok-Some-Accumulation-clause-read
read_items-returns-in_err-read_all-in-Ok-Some-Accumulation-clause-read g t c =
    let l = c.loop-items.invariant in
    let same = ap (λ (v : Vec ℕ Global). v.items) l.1 in
    let e = err_from_is_err_and c.from_residual-in_err-read_all-in-Ok-Some-Accumulation.result c.from_residual-in_err-read_all-in-Ok-Some-Accumulation.ensures.1 in
    let a = c.in-Ok-Some-Accumulation in
    let is : c.in-Ok-Some-Accumulation.field-0 ≡ Some (Accumulation c.in-Ok-Some-Accumulation.names) = cc in
    rw (e.1, e.2) (λ f h. no_files_turn c.args.name.now c.args.text.bytes.items c.args.kind _ _ _ _ c.loop-items.text c.next_item.new.text same l.2 a.field-0 a.ensures.item a.names is c.as_slice.result.now c.as_slice.ensures _ l.3 (c.in_err-read_all-in-Ok-Some-Accumulation.ensures.read f h))

pub read_items-loop-items-preserved : goal.read_items-loop-items-preserved
read_items-loop-items-preserved g t c =
    let l = c.loop-items.invariant in
    let same = ap (λ (v : Vec ℕ Global). v.items) l.1 in
    let a = c.in-Ok-Some-Accumulation in
    let is : c.in-Ok-Some-Accumulation.field-0 ≡ Some (Accumulation c.in-Ok-Some-Accumulation.names) = cc in
    let d = c.in_ok-read_all-in-Ok-Some-Accumulation.ensures in
    (a.ensures.usable, a.ensures.bytes ∙ l.1, files_turn c.args.name.now c.args.text.bytes.items c.args.kind _ _ _ _ c.loop-items.text c.next_item.new.text same l.2 a.field-0 a.ensures.item a.names is c.as_slice.result.now c.as_slice.ensures _ l.3 d.read, d.open ∙ l.3, omega (arith, l.4, d.grows))

pub read_items-returns-in-Err-clause-read : goal.read_items-returns-in-Err-clause-read
read_items-returns-in-Err-clause-read g t c =
    let l = c.loop-items.invariant in
    let same = ap (λ (v : Vec ℕ Global). v.items) l.1 in
    no_item_turn c.args.name.now c.args.text.bytes.items c.args.kind _ _ _ _ c.loop-items.text c.next_item.new.text same l.2 c.in-Err.fault c.in-Err.ensures.item c.in_ok-copy-in-Err.field-0 c.in_ok-copy-in-Err.ensures c.from.result c.from.ensures _ c.text_fault.ensures

-- one file

pub read_file-returns-in-Some-clause-read : goal.read_file-returns-in-Some-clause-read
read_file-returns-in-Some-clause-read g t c =
    let f : File = record { base = c.args.base.now; kind = c.args.kind } in
    let r = c.args.reading.now in
    let place = rw c.deref.ensures.value at c.in-Some.ensures in
    let names = rw (c.deref-in-Some.ensures.value, to_end r.«open».items c.in-Some.place) at c.in_ok-names.ensures in
    round_told r.«open».items f (progress_of r) _ c.in-Some.place place.1 _ refl _ names

pub read_file-returns-then-was_read-clause-read : goal.read_file-returns-then-was_read-clause-read
read_file-returns-then-was_read-clause-read g t c =
    let f : File = record { base = c.args.base.now; kind = c.args.kind } in
    let r = c.args.reading.now in
    let no_circle : Contains (chain_of r) f → ⊥ = search rules in
    let was : WasRead (progress_of r) f = search rules in
    read_before (chain_of r) f (progress_of r) _ no_circle was

pub read_file-returns-then-reading-eq-MAX_FILES-clause-read : goal.read_file-returns-then-reading-eq-MAX_FILES-clause-read
read_file-returns-then-reading-eq-MAX_FILES-clause-read g t c =
    let f : File = record { base = c.args.base.now; kind = c.args.kind } in
    let r = c.args.reading.now in
    let no_circle : Contains (chain_of r) f → ⊥ = search rules in
    let not_read : WasRead (progress_of r) f → ⊥ = search rules in
    too_many_told r.«open».items f (progress_of r) _ no_circle not_read c.in_ok-name.name c.in_ok-name.ensures c.if-reading-eq-MAX_FILES.true

pub read_file-returns-in_err-bytes-clause-read : goal.read_file-returns-in_err-bytes-clause-read
read_file-returns-in_err-bytes-clause-read g t c =
    let f : File = record { base = c.args.base.now; kind = c.args.kind } in
    let r = c.args.reading.now in
    let no_circle : Contains (chain_of r) f → ⊥ = search rules in
    let not_read : WasRead (progress_of r) f → ⊥ = search rules in
    let within : r.loads < limit = omega (arith, r.within) in
    let e = err_from_is_err_and c.from_residual-in_err-bytes.result c.from_residual-in_err-bytes.ensures.1 in
    rw (e.1, e.2) (no_bytes_told r.«open».items f (progress_of r) _ no_circle not_read c.in_ok-name.name c.in_ok-name.ensures within _ c.in_err-bytes.ensures)

pub read_file-returns-in-Err-clause-read : goal.read_file-returns-in-Err-clause-read
read_file-returns-in-Err-clause-read g t c =
    let f : File = record { base = c.args.base.now; kind = c.args.kind } in
    let r = c.args.reading.now in
    let no_circle : Contains (chain_of r) f → ⊥ = search rules in
    let not_read : WasRead (progress_of r) f → ⊥ = search rules in
    let within : r.loads < limit = omega (arith, r.within) in
    λ e h. no_text_told r.«open».items f (progress_of r) _ no_circle not_read c.in_ok-name.name c.in_ok-name.ensures within c.in_ok-bytes.bytes.items c.in_ok-bytes.ensures (text_fault_of c.in-Err.stop) c.in-Err.ensures e (sym c.text_fault.ensures ∙ h)

pub read_file-returns-in_err-items-clause-read : goal.read_file-returns-in_err-items-clause-read
read_file-returns-in_err-items-clause-read g t c =
    let f : File = record { base = c.args.base.now; kind = c.args.kind } in
    let r = c.args.reading.now in
    let no_circle : Contains (chain_of r) f → ⊥ = search rules in
    let not_read : WasRead (progress_of r) f → ⊥ = search rules in
    let within : r.loads < limit = omega (arith, r.within) in
    let e = err_from_is_err_and c.from_residual-in_err-items.result c.from_residual-in_err-items.ensures.1 in
    let o : OpenFile = record { base = c.in_ok-base.base; kind = c.args.kind } in
    let its_file : file_of o ≡ f = ap (λ (x : List ℕ). record { base = x; kind = c.args.kind }) c.in_ok-base.ensures in
    let inner = opened r.«open».items c.add.new.items.items o f c.in_ok-add.ensures its_file in
    rw (e.1, e.2) (λ z h. unread_told r.«open».items f (progress_of r) _ no_circle not_read c.in_ok-name.name c.in_ok-name.ensures within c.in_ok-bytes.bytes.items c.in_ok-bytes.ensures c.in-Ok.text.bytes.items c.in-Ok.ensures.0 c.in-Ok.ensures.2 _ inner z (c.in_err-items.ensures.read z h))

pub read_file-returns-clause-read : goal.read_file-returns-clause-read
read_file-returns-clause-read g t c =
    let f : File = record { base = c.args.base.now; kind = c.args.kind } in
    let r = c.args.reading.now in
    let no_circle : Contains (chain_of r) f → ⊥ = search rules in
    let not_read : WasRead (progress_of r) f → ⊥ = search rules in
    let within : r.loads < limit = omega (arith, r.within) in
    let o : OpenFile = record { base = c.in_ok-base.base; kind = c.args.kind } in
    let its_file : file_of o ≡ f = ap (λ (x : List ℕ). record { base = x; kind = c.args.kind }) c.in_ok-base.ensures in
    let inner = opened r.«open».items c.add.new.items.items o f c.in_ok-add.ensures its_file in
    whole_told r.«open».items f (progress_of r) _ no_circle not_read c.in_ok-name.name c.in_ok-name.ensures within c.in_ok-bytes.bytes.items c.in_ok-bytes.ensures c.in-Ok.text.bytes.items c.in-Ok.ensures.0 c.in-Ok.ensures.2 _ inner c.read_items.new.reading.files.items c.add-2.new.items.items _ c.in_ok-items.ensures.read refl c.in_ok-add-2.ensures

pub read_file-returns-clause-open : goal.read_file-returns-clause-open
read_file-returns-clause-open g t c =
    let f : File = record { base = c.args.base.now; kind = c.args.kind } in
    let os : List OpenFile = c.args.reading.now.«open».items in
    let o : OpenFile = record { base = c.in_ok-base.base; kind = c.args.kind } in
    let its_file : file_of o ≡ f = ap (λ (x : List ℕ). record { base = x; kind = c.args.kind }) c.in_ok-base.ensures in
    let inner = opened os c.add.new.items.items o f c.in_ok-add.ensures its_file in
    let all : c.len-depth.result ≡ length os = omega (arith, c.len-depth.ensures, c.args.reading.now.«open».ok.0) in
    rw c.truncate.ensures.items (closed os c.read_items.new.reading.«open».items c.len-depth.result f all (c.in_ok-items.ensures.open ∙ inner))
