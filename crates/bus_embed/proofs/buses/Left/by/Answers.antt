use Rattle.std.proofs.Common.{◌+◌, length, slice_index, ap, sym, ◌∙◌, arith}
use Rattle.bus_embed.proofs.buses.Left.by.Goals as goal

pub returns : goal.returns
returns c =
    let s = c.log-log.ensures.spelled in
    let page = c.page-page.ensures in record {
      order = s.0;
      owners = s.1;
      spells = s.2;
      bases = λ k below. c.bases_of.ensures k below;
      next = ap (λ p. p.next) page.page;
      sums = λ k below.
          let next = ap (λ p. slice_index p.next k) page.page in
          let base = c.bases_of.ensures k below in
          let counts = c.counts_of.ensures k below in
          let sum = counts.sum in omega (arith, next, sum, base);
      counts = λ k below. c.counts_of.ensures k below;
      floor = c.floor.ensures.floor;
      words = page.words ∙ ap (λ n. n + length c.args.ended.now.log) (sym c.floor.ensures.floor);
      tenures = ap (λ p. p.tenures) page.page;
      ended = ap (λ p. p.ended) page.page;
      gone = ap (λ p. p.left) page.page;
      have_left = λ k below has. page.has_left k s.0 s.1 below s.2 has;
      all_left = λ flat k below. page.left flat k s.0 s.1 below s.2;
    }
