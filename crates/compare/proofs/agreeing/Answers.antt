use mathlib.Core.Path.{◌≡◌, ◌∙◌}
use mathlib.Core.Bool.{Bool}
use mathlib.Core.List.{List}
use Prim.Native.Nat.{ℕ, ◌/◌, min}
use native.Mathlib.Omega.{arith}
use borrow.Author.Rules.{rules}
use borrow.Author.Tests.{tests}
use lib.ListN.{length}
use Rattle.std.specs.List.{zip}
use Rattle.std.specs.Str.{bytes_eq}
use Rattle.std.specs.Simd.{first_chunks}
use Rattle.std.proofs.lemmas.List.Folds.{length-prefix_len}
use Rattle.std.proofs.lemmas.Iterator.{YieldsList-from_slice, YieldsList-from_zip}
use Rattle.std.proofs.lemmas.Iterator.Consumers.{YieldsList-at, count_from_yields_List}
use Rattle.std.proofs.lemmas.Iterator.Search.{YieldsList-from_take_while}
use Rattle.bus_log.specs.Log.{record_size}
use Rattle.compare.specs.Compare.{records_in_both}
use Rattle.compare.specs.Block.{agreeing_of}
use Rattle.compare.proofs.Blocks.{agree_prefix, agree_most}
use Rattle.compare.proofs.agreeing.Goals as goal

abbrev same : List ℕ × List ℕ → Bool
same p = bytes_eq p.0 p.1

abbrev records_of : List ℕ → List (List ℕ)
records_of log = first_chunks record_size (length log / record_size) log

pub returns : goal.returns
returns c =
    let a = c.args.first.now in
    let b = c.args.second.now in
    let both : min (length a / record_size) (length b / record_size) ≡ records_in_both a b = omega arith in
    let told : c.count.result ≡ agreeing_of (records_in_both a b) a b =
    count_from_yields_List c.take_while.result _ c.count.ensures.ran
    (YieldsList-from_take_while _ same
    (YieldsList-at c.take_while.ensures.source
    (YieldsList-from_zip (YieldsList-at c.zip.ensures.first (YieldsList-from_slice (records_of a) (c.iter.ensures.rest ∙ c.as_chunks.ensures.front)))
    (YieldsList-from_slice (records_of b) (cc))))
    c.take_while.ensures.closure c.take_while.ensures.done (λ x t q k. search (rules, tests)))
    ∙ length-prefix_len same (zip (records_of a) (records_of b))
    ∙ agree_prefix (length a / record_size) (length b / record_size) a b
    ∙ rw both in
    record { told = told; most = omega (arith, told, agree_most (records_in_both a b) a b) }
