mod LayerBits
mod Tx3gReading
