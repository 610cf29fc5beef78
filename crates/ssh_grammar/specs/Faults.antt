-- A field that doesn't fit, as a fault of the message that it stands in.
use Rattle.ssh_fields.specs.declared.field_reader.FieldFault.{FieldFault}
use Rattle.ssh_fields.specs.declared.field_reader.FieldFault.TheVariants as field
use Rattle.ssh_grammar.specs.declared.fault.Bad.{Bad}
use Rattle.ssh_grammar.specs.declared.fault.Bad.TheVariants as message
use Rattle.ssh_grammar.specs.declared.fault.BadControl.{BadControl}
use Rattle.ssh_grammar.specs.declared.fault.BadControl.TheVariants as control

abbrev pub bad_of : FieldFault → Bad
bad_of (field.Short at) = message.Short at
bad_of (field.Extra at) = message.Extra at

abbrev pub bad_control_of : FieldFault → BadControl
bad_control_of (field.Short at) = control.Short at
bad_control_of (field.Extra at) = control.Extra at
