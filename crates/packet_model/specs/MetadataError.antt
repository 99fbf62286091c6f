-- Why metadata wasn't read.
use Rattle.std.specs.Prelude.{Option, Some, None}
use Rattle.packet_model.specs.declared.cause.BadCause.{BadCause}
use Rattle.packet_model.specs.declared.error.MetadataError.{MetadataError}
use Rattle.packet_model.specs.declared.error.MetadataError.TheVariants.{Bad, Memory}

-- the cause for which a file is bad; without one memory ran out
abbrev pub cause_of : MetadataError → Option BadCause
cause_of (Bad cause) = Some cause
cause_of Memory = None
