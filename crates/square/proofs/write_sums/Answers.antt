-- `square::write_sums` meets its contract: the half-iterations on arrays of zeros, and the sums' bytes. Assumes nothing.
use Rattle.std.proofs.Common.{◌≡◌, ◌≤◌, ◌*◌, ◌++◌, List, ℕ, ℤ, length, drop, length-append, ap₂, sym, ◌∙◌, arith}
use lib.Seq.{length-take-le}
use Rattle.square.proofs.Frames.{held-zeros, places-few}
use Rattle.square.proofs.write_sums.Goals as goal

-- what was lent comes back as long as it was
back-fits : (made zeros : List ℤ) (places : ℕ) → length made ≡ places → places ≤ length (made ++ drop places zeros)
back-fits made zeros places e = omega (arith, e, length-append made (drop places zeros))

pub slice_bounds-rows-end : goal.slice_bounds-rows-end
slice_bounds-rows-end c = places-few c.args.code.ready c.requires.channel_len

pub slice_bounds-columns-end : goal.slice_bounds-columns-end
slice_bounds-columns-end c = places-few c.args.code.ready c.requires.channel_len

pub slice_bounds-inputs-end : goal.slice_bounds-inputs-end
slice_bounds-inputs-end c = places-few c.args.code.ready c.requires.channel_len

pub slice_bounds-sums-end : goal.slice_bounds-sums-end
slice_bounds-sums-end c = places-few c.args.code.ready c.requires.channel_len

pub slice_bounds-last_sums-end : goal.slice_bounds-last_sums-end
slice_bounds-last_sums-end c = sym (length-take-le _ _ (places-few c.args.code.ready c.requires.channel_len))

pub slice_bounds-last_sums-end-2 : goal.slice_bounds-last_sums-end-2
slice_bounds-last_sums-end-2 c = sym (length-take-le _ _ (places-few c.args.code.ready c.requires.channel_len))

pub slice_bounds-last_sums-end-3 : goal.slice_bounds-last_sums-end-3
slice_bounds-last_sums-end-3 c = sym (length-take-le _ _ (places-few c.args.code.ready c.requires.channel_len))

pub slice_bounds-last_sums-end-4 : goal.slice_bounds-last_sums-end-4
slice_bounds-last_sums-end-4 c = sym (length-take-le _ _ (places-few c.args.code.ready c.requires.channel_len))

pub last_sums-requires-clause-square : goal.last_sums-requires-clause-square
last_sums-requires-clause-square c =
    let few = places-few c.args.code.ready c.requires.channel_len in
    record {
      channels = c.requires.channel_len;
      others-long = length-take-le _ _ few ∙ c.requires.channel_len;
      own-long = length-take-le _ _ few ∙ c.requires.channel_len;
      inputs_long = length-take-le _ _ few ∙ c.requires.channel_len;
    }

pub last_sums-requires-clause-held : goal.last_sums-requires-clause-held
last_sums-requires-clause-held c =
    let a = c.args in
    held-zeros a.code.stage (length a.channel.now) (c.requires.channel_len ∙ ap₂ ◌*◌ a.code.ready.sized a.code.ready.sized) (places-few a.code.ready c.requires.channel_len)

pub slice_bounds-sums-end-2 : goal.slice_bounds-sums-end-2
slice_bounds-sums-end-2 c = back-fits _ _ _ (c.last_sums.auto.sums ∙ length-take-le _ _ (places-few c.args.code.ready c.requires.channel_len))

pub slice_bounds-write_numbers-end : goal.slice_bounds-write_numbers-end
slice_bounds-write_numbers-end c = sym (length-take-le _ _ (back-fits _ _ _ (c.last_sums.auto.sums ∙ length-take-le _ _ (places-few c.args.code.ready c.requires.channel_len))))
