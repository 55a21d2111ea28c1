-- `walking::lowest`.
use Rattle.leading.specs.Leading.{way_at}
use Rattle.leading.proofs.Ways.{leads_in}
use Rattle.walking.proofs.Scan.{begin, ends-in, turned, less, finished}
use Rattle.walking.proofs.lowest.Goals as goal

pub loop-next-init : goal.loop-next-init
loop-next-init c = begin (way_at _) (leads_in _) c.new-walk.ensures (cc)

pub spread-next-requires : goal.spread-next-requires
spread-next-requires c = ends-in (way_at _) (leads_in _) _ _ c.in-Some.site.inside c.paths_at-paths.ensures

pub loop-next-smaller : goal.loop-next-smaller
loop-next-smaller c = rw c.in-Some.is (less (way_at _) (leads_in _) _ (rw c.in-Some.is at c.loop-next.invariant) c.paths_at-paths.ensures c.spread-next.ensures)

pub loop-next-preserved : goal.loop-next-preserved
loop-next-preserved c =
    turned (way_at _) (leads_in _) _ (rw c.in-Some.is at c.loop-next.invariant) c.paths_at-paths.ensures c.spread-next.ensures c.lowest_of-found.ensures

pub returns : goal.returns
returns c = finished (way_at _) (leads_in _) (rw c.in_default.is at c.loop-next.invariant)
