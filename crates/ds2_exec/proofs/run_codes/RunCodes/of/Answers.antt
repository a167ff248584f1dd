use Rattle.ds2_store_steps.proofs.Leading.{item_is}
use Rattle.ds2_exec.proofs.GatheredCodes.{named_more, placed_more}
use Rattle.ds2_exec.proofs.run_codes.RunCodes.of.Goals as goal

pub codes-preserved : goal.codes-preserved
codes-preserved c =
    let code_is = item_is _ _ c.in-len1-up.len_at_least c.code-item.is in
    record {
      named = named_more c.args.codes.now _ _ _ c.codes.references c.in_ok-own.own _ code_is c.in_ok-own.ensures c.in_ok-append_list.ensures.ok c.codes.invariant.named;
      placed = placed_more c.args.codes.now _ _ _ c.codes.references c.in_ok-own.own _ c.codes.places _ c.len-start.result c.len-count.result code_is c.in_ok-own.ensures c.in_ok-append_list.ensures.ok c.len-start.ensures c.len-count.ensures
          c.in_ok-push.ensures.ok c.codes.invariant.placed;
    }
