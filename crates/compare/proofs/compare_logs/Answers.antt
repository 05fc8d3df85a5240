use mathlib.Core.Path.{◌≡◌, sym}
use lib.ListN.{length}
use Rattle.std.proofs.Common.{Err, rules}
use Rattle.compare.specs.Compare.{compare_entries}
use Rattle.compare.proofs.Whole.{err_told, log_taken}
use Rattle.compare.proofs.compare_logs.Goals as goal

pub returns-in_err-logs_refusal : goal.returns-in_err-logs_refusal
unfolding compare_entries
returns-in_err-logs_refusal c =
    let e = c.in_err-logs_refusal.field-0.0 in
    let told : c.from_residual.result ≡ Err e = search rules in
    let t = err_told c.args.first.now c.args.second.now c.args.entries.now e c.in_err-logs_refusal.ensures in
    record { told = rw told t.told; buffer = t.stored }

pub returns : goal.returns
unfolding compare_entries
returns c =
    let same = log_taken c.args.first.now c.args.second.now (length c.args.entries.now) (sym c.in_ok-logs_refusal.ensures) in
    let t = c.list_logs.ensures in record { told = rw same at t.told; buffer = rw same at t.buffer }
