-- `axis_fields::sap`.
use Rattle.fields.specs.Fields.{sap}
use Rattle.axis_fields.proofs.sap.Goals as goal

pub returns : goal.returns
unfolding sap
returns c =
    simp (c.by_bytes.ensures, c.writable.ensures, c.settable-value.ensures, c.axis_place.ensures)
