-- Files as a command sees them. `Files`: the result of a read of a name, and the effect of an
-- attempt to write octets to a name. Each implementation of a file system defines its own relations
-- of these: files in memory do; of a system's files a contract states only that these reads and
-- attempts were made, in this order. `Keys`: the key in a text, and the result of reading a key
-- file.

pub mod Files
pub mod Keys
