use Rattle.telling.proofs.Growing.{byte_full, byte_put}
use Rattle.telling.proofs.text.Text.add_byte.Goals as goal

pub returns-then-self-lt-ROOM : goal.returns-then-self-lt-ROOM
returns-then-self-lt-ROOM c = byte_put _ _ c.if-self-lt-ROOM.true

pub returns-else-self-lt-ROOM : goal.returns-else-self-lt-ROOM
returns-else-self-lt-ROOM c = byte_full _ _ c.if-self-lt-ROOM.false
